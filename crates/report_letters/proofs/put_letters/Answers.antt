use native.Mathlib.Omega.{arith}
use mathlib.Core.Path.{◌≡◌, ap, ◌∙◌}
use lib.ListN.{length}
use Rattle.rules.specs.Letters.{letters_shown, letter_bytes}
use Rattle.account_letters.specs.View.{to_letter}
use Rattle.octet_writer.specs.Written.{Written}
use Rattle.octet_writer.proofs.Laws.{written_then, written_front}
use borrow.Author.Rules.{rules}
use Rattle.report_letters.proofs.Laws.{letters_written}
use Rattle.report_letters.proofs.put_letters.Goals as goal

pub returns-clause-wrote : goal.returns-clause-wrote
unfolding to_letter letter_bytes
returns-clause-wrote c =
    let w =
    rw c.new-set.ensures.2 at
    (letters_written c.args.letters c.put_letter.ensures.wrote c.put_letter-2.ensures.wrote c.put_letter-3.ensures.wrote c.put_letter-4.ensures.wrote
    c.put_letter-5.ensures.wrote) in
    let n : c.len-count.result ≡ length (letters_shown c.args.letters) = c.len-count.ensures ∙ omega (arith, w.behind) in
    let f = written_front w (omega (arith, c.new-set.ensures.2, ap length c.new-set.ensures.1)) in
    let b : Written c.put.new.self.out.now c.put.new.self.at (letters_shown c.args.letters) c.put_all.new.self.out.now c.put_all.new.self.at = search rules in
    written_then (rw n at c.put.ensures.wrote) b

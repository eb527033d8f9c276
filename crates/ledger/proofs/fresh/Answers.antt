use mathlib.Core.Path.{◌≡◌, ap}
use Rattle.rules.specs.Machine.{empty}
use Rattle.table.specs.View.{Table, machine_of}
use Rattle.table.specs.Promise.{Good}
use Rattle.book.specs.declared.Book.{Book}
use Rattle.book.specs.Entries.{book_of, empty_book}
use mathlib.Core.List.{[]}
use lib.ListN.{length}
use Rattle.ledger.specs.Promise.{SoundLedger}
use Rattle.ledger.specs.View.{Ledger, ledger_view}
use Rattle.ledger.proofs.Laws.{started}
use Rattle.ledger.proofs.fresh.Goals as goal

start : (t : Table) (b : Book) → Good t → machine_of t ≡ empty → b ≡ empty_book → book_of b ≡ [] → let l : Ledger = record { table = t; book = b } in SoundLedger l × (ledger_view l ≡ empty)
unfolding empty_book
start t b g m e f = started t b g m (ap (λ (x : Book). x.used) e) f (ap (λ (x : Book). length x.ids) e) (ap (λ (x : Book). length x.days) e)

pub invariant_of-result : goal.invariant_of-result
invariant_of-result c = (start c.fresh.result c.empty.result c.fresh.ensures.0 c.fresh.ensures.1 c.empty.ensures.0 c.empty.ensures.1).0

pub returns : goal.returns
returns c =
    let s = start c.fresh.result c.empty.result c.fresh.ensures.0 c.fresh.ensures.1 c.empty.ensures.0 c.empty.ensures.1 in
    (s.0, s.1, c.fresh.ensures.2, c.empty.ensures.0)

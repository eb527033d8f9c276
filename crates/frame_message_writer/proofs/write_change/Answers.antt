use borrow.Author.Rules.{rules}
use mathlib.Core.Path.{◌≡◌}
use mathlib.Core.Bool.{◌&&◌}
use lib.ListN.{length}
use lib.Dec.{leb}
use Rattle.rules.specs.Command.{Change, is_code, is_count, well_formed}
use Rattle.command.specs.View.{to_header, items_from}
use Rattle.command.proofs.Forms.{change_formed, count_most}
use Rattle.octet_writer.proofs.Laws.{written_same}
use Rattle.frame_message_writer.proofs.Rows.{row_frame, change_frame}
use Rattle.frame_message_writer.proofs.write_change.Goals as goal

pub returns-clause-wrote : goal.returns-clause-wrote
returns-clause-wrote c =
    let h = c.args.h in
    let l : length c.args.items.rows ≡ 16 = search rules in
    let e : well_formed (Change (to_header h) (items_from 0 c.args.items.count c.args.items.rows)) ≡ ((is_code h.sender && leb h.second 86399) && is_count c.args.items.count) =
    search (rules, change_formed) in
    written_same (row_frame _ _ _ e (λ t. change_frame h c.args.items.count (count_most h c.args.items.count t) c.args.items.rows l)) c.write_rows.ensures.wrote

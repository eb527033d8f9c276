use borrow.Author.Rules.{rules}
use mathlib.Core.Path.{◌≡◌}
use mathlib.Core.Bool.{◌&&◌}
use lib.ListN.{length}
use lib.Dec.{leb}
use Rattle.rules.specs.Command.{Query, is_code, is_count, well_formed}
use Rattle.command.specs.View.{to_header, ids_from}
use Rattle.command.proofs.Forms.{query_formed, count_most}
use Rattle.octet_writer.proofs.Laws.{written_same}
use Rattle.frame_message_writer.proofs.Rows.{row_frame, query_frame}
use Rattle.frame_message_writer.proofs.write_query.Goals as goal

pub returns-clause-wrote : goal.returns-clause-wrote
returns-clause-wrote c =
    let h = c.args.h in
    let l : length c.args.ids.rows ≡ 16 = search rules in
    let e : well_formed (Query (to_header h) (ids_from 0 c.args.ids.count c.args.ids.rows)) ≡ ((is_code h.sender && leb h.second 86399) && is_count c.args.ids.count) =
    search (rules, query_formed) in
    written_same (row_frame _ _ _ e (λ t. query_frame h c.args.ids.count (count_most h c.args.ids.count t) c.args.ids.rows l)) c.write_rows.ensures.wrote

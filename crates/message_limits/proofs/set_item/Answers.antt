use Rattle.std.proofs.Common.{◌∙◌, ap}
use Rattle.rules.specs.Account.{with_moment}
use Rattle.rules.specs.Message.{touch}
use Rattle.command.specs.View.{to_header}
use Rattle.account.specs.View.{to_account}
use Rattle.message_limits.specs.Setting.{setting}
use Rattle.message_limits.proofs.Types.{with_named}
use Rattle.message_limits.proofs.set_item.Goals as goal

pub returns : goal.returns
unfolding touch to_header
returns c =
    (rw (c.set_to-limit.ensures, c.limit.ensures, c.from-limit_type.ensures, c.moment_of.ensures) at c.touched.ensures)
    ∙ ap (with_moment _) (with_named c.args.item.kind (setting c.args.item.value) (to_account c.args.x))

use borrow.Author.Rules.{rules}
use Rattle.rules.specs.Account.{with_turnovers, no_turnovers}
use Rattle.account.specs.View.{to_account, to_turnovers}
use Rattle.account_morning.proofs.fresh_turnovers.Goals as goal

pub returns : goal.returns
unfolding to_account to_turnovers with_turnovers no_turnovers
returns c = search rules

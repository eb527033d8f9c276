use Rattle.rules.specs.Day.{new_day, new_day_of}
use Rattle.account.specs.View.{to_account, to_owner}
use Rattle.account_morning.proofs.new_day.Goals as goal

pub returns-in-None : goal.returns-in-None
unfolding to_account to_owner new_day new_day_of
returns-in-None c = rw (c.fresh_turnovers.ensures, c.carried.ensures, c.in-None.is)

pub returns-in-Some : goal.returns-in-Some
unfolding to_account to_owner new_day new_day_of
returns-in-Some c = rw (c.fresh_turnovers-in-Some.ensures, c.morning_limits.ensures, c.in-Some.is)

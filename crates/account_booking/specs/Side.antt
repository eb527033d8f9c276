-- The turnover of a payment at one of its sides. Assumes nothing.
use Rattle.std.specs.Prelude.{Bool}
use Rattle.rules.specs.Account.{Turnover}
use Rattle.rules.specs.Payment.{out_turnover, in_turnover}
use Rattle.account_booking.specs.declared.Side.{Side}
use Rattle.account_booking.specs.declared.Side.TheVariants.{Payer, Payee}

abbrev pub side_turnover : Side → Bool → Turnover
side_turnover Payer credit = out_turnover credit
side_turnover Payee credit = in_turnover credit

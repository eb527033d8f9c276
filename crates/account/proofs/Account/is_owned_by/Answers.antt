use mathlib.Core.Path.{◌≡◌, refl, ◌∙◌}
use Prim.Native.Nat.{ℕ}
use lib.Dec.{eqb}
use Rattle.std.specs.Prelude.{Option, None, Some}
use Rattle.std.specs.Option.{option_eq}
use Rattle.rules.specs.Message.{owned_by}
use Rattle.account.specs.View.{to_account, to_owner}
use Rattle.account.proofs.Account.is_owned_by.Goals as goal

by_owner : (o : Option ℕ) (bank : ℕ) → option_eq eqb o (Some bank) ≡ owned_by bank (to_owner o)
unfolding to_owner owned_by
by_owner None bank = refl
by_owner (Some b) bank = refl

pub returns : goal.returns
unfolding to_account
returns c = c.eq.ensures ∙ by_owner c.args.self.owner c.args.bank

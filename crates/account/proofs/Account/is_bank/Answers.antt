use mathlib.Core.Bool.{Bool, true, false, not, true≢false}
use mathlib.Core.Path.{◌≡◌, refl, sym}
use Prim.Native.Nat.{ℕ}
use Rattle.std.specs.Prelude.{Option, None, Some, is_some}
use Rattle.rules.specs.Account.{is_bank, is_none}
use Rattle.account.specs.View.{to_account, to_owner}
use Rattle.account.proofs.Account.is_bank.Goals as goal

by_owner : (o : Option ℕ) (r : Bool) → is_some o ≡ not r → r ≡ is_none (to_owner o)
unfolding to_owner is_none
by_owner None true e = refl
by_owner None false e = absurd (true≢false (sym e))
by_owner (Some b) false e = refl
by_owner (Some b) true e = absurd (true≢false e)

pub returns : goal.returns
unfolding to_account is_bank
returns c = by_owner c.args.self.owner c.is_none.result c.is_none.ensures

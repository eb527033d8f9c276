-- No account stands, and every place is blank. Assumes nothing.
use mathlib.Core.Path.{◌≡◌, refl, ap, ◌∙◌}
use mathlib.Core.List.{◌∷◌, map}
use Prim.Native.Nat.{ℕ, zero, suc}
use native.Mathlib.Omega.{arith}
use lib.ListN.{replicate}
use Rattle.rules.specs.Account.{codes}
use Rattle.rules.specs.Machine.{empty}
use Rattle.rules.proofs.Theorem.{start_inv}
use Rattle.account.specs.View.{to_account, to_owner}
use Rattle.table.specs.View.{machine_of, accounts_of}
use Rattle.table.proofs.fresh.Goals as goal

map-replicate : {A B : Type 0} (f : A → B) (a : A) (n : ℕ) → map f (replicate n a) ≡ replicate n (f a)
map-replicate f a zero = refl
map-replicate f a (suc n) = ap (λ l. f a ∷ l) (map-replicate f a n)

pub invariant_of-result : goal.invariant_of-result
unfolding machine_of accounts_of empty codes
invariant_of-result c = record { good = record { own = record { within = omega arith; same = refl }; inv = start_inv }; long = refl }

pub returns : goal.returns
unfolding machine_of accounts_of empty codes to_owner
returns c = (
  record { own = record { within = omega arith; same = refl }; inv = start_inv },
  refl,
  record {
    codes_are = refl;
    accounts_are = map-replicate to_account c.opened-a.result 64 ∙ ap (replicate 64) c.opened-a.ensures;
  },
)

-- The limit that a message names by a number. Assumes nothing.
use Rattle.std.proofs.Common.{◌≡◌, refl, ℕ, cond, true, false}
use lib.Dec.{eqb}
use Rattle.rules.specs.Account.{Limit, Account, with_limits}
use Rattle.rules.specs.Message.{with_limit}
use Rattle.account.specs.declared.LimitType.TheVariants.{Ltk, Lpo}
use Rattle.account.specs.View.{type_of, type_number, limit_named}

pub with_named : (kind : ℕ) (g : Limit → Limit) (x : Account) → with_limit (type_number (type_of kind)) (λ _. g (limit_named (type_of kind) x)) x ≡ with_limit kind g x
unfolding type_of type_number limit_named with_limit
with_named kind g x =
    elim (eqb kind 1) as (λ b. cond (eqb (type_number (cond b Ltk Lpo)) 1) (with_limits (g (limit_named (cond b Ltk Lpo) x)) x.lpo x) (with_limits x.ltk (g (limit_named (cond b Ltk Lpo) x)) x) ≡ cond b (with_limits (g x.ltk) x.lpo x) (with_limits x.ltk (g x.lpo) x))
    [ true ↦ refl | false ↦ refl ]

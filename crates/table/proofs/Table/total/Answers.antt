use native.Mathlib.Omega.{arith}
use mathlib.Core.Path.{◌≡◌, sym, ap, ◌∙◌, subst}
use Prim.Native.Nat.{suc, ◌+◌, ◌≤◌, ◌<◌, ◌^◌}
use native.Mathlib.Numerals.{add-one}
use lib.ListN.{drop}
use lib.IntN.{ℤ, nat_abs, ◌+ℤ◌, ◌-ℤ◌, +ℤ_assoc, +ℤ_idr, +ℤ-neg_ℤ_cancel}
use mir.Syntax.{w64}
use mir.Val.{to_z, SFits}
use mir.Facts.{to_z-of_z}
use Rattle.amount.proofs.Integer.{back, size_fits, diff_small}
use Rattle.rules.specs.Account as Rule
use Rattle.rules.specs.Invariant.{Sized}
use Rattle.table.specs.View.{accounts_of}
use Rattle.table.specs.Inside.{table_of}
use Rattle.table.proofs.Called.{every_sized, place_has, total_end, total_step, total_small}
use Rattle.table.proofs.Table.total.Goals.{After-held-sum}
use Rattle.table.proofs.Table.total.Goals as goal

-- what the accounts from a place on hold
abbrev rest : After-held-sum → ℤ
rest c = Rule.total Rule.held (drop (suc c.loop-i.i) (accounts_of (table_of c.self.inside)))

-- the sum so far
abbrev so_far : After-held-sum → ℤ
so_far c = to_z w64 c.loop-i.sum-bits

-- one account more, the same whole
next : (c : After-held-sum) → (so_far c +ℤ c.held-sum.result) +ℤ rest c ≡ Rule.total Rule.held (accounts_of (table_of c.self.inside))
next c =
    +ℤ_assoc (so_far c) c.held-sum.result (rest c)
    ∙ ap (λ z. so_far c +ℤ z) (ap (λ z. z +ℤ rest c) c.held-sum.ensures ∙ sym (total_step _ c.self.invariant.good c.self.invariant.long c.loop-i.i _ c.loop-i-test.true))
    ∙ c.loop-i.invariant

fits : (c : After-held-sum) → SFits w64 (so_far c +ℤ c.held-sum.result)
fits c =
    size_fits (so_far c +ℤ c.held-sum.result)
    (part_fits (so_far c +ℤ c.held-sum.result) (rest c) _ (next c) (total_small _ c.self.invariant.good c.self.invariant.long 0) (total_small _ c.self.invariant.good c.self.invariant.long (suc c.loop-i.i)))
  where
    part_fits : (x y z : ℤ) → x +ℤ y ≡ z → nat_abs z ≤ 10 ^ 18 → nat_abs y ≤ 10 ^ 18 → nat_abs x < 2 ^ 63
    part_fits x y z e h k =
        let e' : z -ℤ y ≡ x = ap (λ w. w -ℤ y) (sym e) ∙ +ℤ-neg_ℤ_cancel x y in
        let d : nat_abs x ≤ 10 ^ 18 + 10 ^ 18 = subst (λ w. nat_abs w ≤ 10 ^ 18 + 10 ^ 18) e' (diff_small z y (10 ^ 18) (10 ^ 18) h k) in
        omega (arith, d)

pub held-sum-requires : goal.held-sum-requires
held-sum-requires c =
    place_has _ c.self.invariant.good c.self.invariant.long Sized (every_sized _ c.self.invariant.good) c.loop-i.i _ c.loop-i-test.true

pub overflow_add-sum : goal.overflow_add-sum
overflow_add-sum c = rw (back c.held-sum.result c.held-sum.type_inv) (fits (goal.at.overflow_add-sum c).After-held-sum)

pub loop-i-preserved : goal.loop-i-preserved
loop-i-preserved c =
    rw (back c.held-sum.result c.held-sum.type_inv, to_z-of_z (fits (goal.at.loop-i-preserved c).After-held-sum), add-one) (next (goal.at.loop-i-preserved c).After-held-sum)

pub returns-clause-total : goal.returns-clause-total
returns-clause-total c =
    let end : c.loop-i.i ≡ c.self.inside.count = omega arith in
    rw (← c.self.view_is)
    (sym (+ℤ_idr (to_z w64 c.loop-i.sum-bits))
    ∙ ap (λ z. to_z w64 c.loop-i.sum-bits +ℤ z) (sym (ap (λ i. Rule.total Rule.held (drop i (accounts_of (table_of c.self.inside)))) end ∙ total_end _ c.self.invariant.good c.self.invariant.long))
    ∙ c.loop-i.invariant)

pub returns-clause-bounded : goal.returns-clause-bounded
returns-clause-bounded c = rw (returns-clause-total c, ← c.self.view_is) (total_small _ c.self.invariant.good c.self.invariant.long 0)

-- No refusal is 0, the answer of what is accepted. Assumes nothing.
use Rattle.std.specs.Prelude.{◌≡◌}
use native.Mathlib.Omega.{arith}
use Rattle.refusal.specs.Answer.{number}
use Rattle.refusal.specs.declared.Refusal.{Refusal}

pub no_zero : (e : Refusal) → number e ≡ 0 → ⊥
no_zero = grind arith

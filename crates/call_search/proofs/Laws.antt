-- The conditions of a search, where they are well-formed. Assumes nothing.
use Rattle.std.proofs.Common.{◌≡◌, ◌≤◌, List, ℕ, true, length, arith}
use Rattle.frame_fields.specs.Conditions.{are_conditions, ConditionsFirst}
use Rattle.frame.proofs.Texts.{conditions_most}

pub conditions_first : (n : ℕ) (v : List ℕ) → n ≤ 8 → 96 ≤ length v → are_conditions n v ≡ true → ConditionsFirst n v
conditions_first n v h l f = record { formed = f; within = omega (arith, conditions_most n v f) }

-- Laws of a walk over conditions, one after the other. Assumes nothing.
use mathlib.Core.Path.{◌≡◌, refl, sym, ap, ap₂, ◌∙◌, subst}
use mathlib.Core.Bool.{Bool, true, false, ◌&&◌, ◌||◌}
use mathlib.Core.List.{List}
use Prim.Native.Nat.{ℕ, suc, ◌+◌, ◌-◌, ◌≤◌, ◌<◌}
use native.Mathlib.Omega.{arith}
use lib.ListN.{length, take, drop, get_or, length-drop}
use lib.Seq.{get_or-drop, drop-drop}
use Rattle.octets.specs.Octets.{part}
use Rattle.octets.proofs.Numbers.{both}
use Rattle.octets.proofs.Places.{part_length}
use Rattle.rules.specs.Command.{Condition, some?, is_form}
use Rattle.frame_fields.specs.Conditions.{first_width, first_of, conditions_in, conditions_width, are_conditions, ConditionsFirst}

-- the condition that begins at a place
abbrev pub condition_at : List ℕ → ℕ → Condition
condition_at b at = record { mode = get_or b at 0; text = part (at + 2) (get_or b (at + 1) 0) b }

-- the place behind it
abbrev pub behind : List ℕ → ℕ → ℕ
behind b at = at + 2 + get_or b (at + 1) 0

module _ (b : List ℕ) (at : ℕ) where
  mode_here : get_or (drop at b) 0 0 ≡ get_or b at 0
  mode_here = let e : at + 0 ≡ at = omega arith in get_or-drop at b 0 0 ∙ ap (λ (i : ℕ). get_or b i 0) e

  size_here : get_or (drop at b) 1 0 ≡ get_or b (at + 1) 0
  size_here = get_or-drop at b 1 0

  width_here : first_width (drop at b) ≡ 2 + get_or b (at + 1) 0
  unfolding first_width
  width_here = ap (λ (k : ℕ). 2 + k) size_here

  rest_here : drop (first_width (drop at b)) (drop at b) ≡ drop (behind b at) b
  rest_here =
      let e : at + (2 + get_or b (at + 1) 0) ≡ behind b at = omega arith in
      ap (λ (k : ℕ). drop k (drop at b)) width_here ∙ drop-drop (2 + get_or b (at + 1) 0) at b ∙ ap (λ (k : ℕ). drop k b) e

  first_here : first_of (drop at b) ≡ condition_at b at
  unfolding first_of part
  first_here = rw (mode_here, size_here, drop-drop 2 at b)

  module _ (n : ℕ) where
    test_one : (p : Condition → Bool) → some? p (conditions_in (suc n) (drop at b)) ≡ (p (condition_at b at) || some? p (conditions_in n (drop (behind b at) b)))
    unfolding conditions_in some?
    test_one p = ap₂ (λ (c : Condition) (bs : List ℕ). p c || some? p (conditions_in n bs)) first_here rest_here

    module _ (l : ConditionsFirst (suc n) (drop at b)) where
      parts : (is_form (get_or b at 0) (get_or b (at + 1) 0) ≡ true) × (are_conditions n (drop (behind b at) b) ≡ true)
      unfolding are_conditions
      parts =
          let q = both (is_form (get_or (drop at b) 0 0) (get_or (drop at b) 1 0)) (are_conditions n (drop (first_width (drop at b)) (drop at b))) l.formed in
          (sym (ap₂ is_form mode_here size_here) ∙ q.0, sym (ap (are_conditions n) rest_here) ∙ q.1)

      reach : (2 + get_or b (at + 1) 0) + conditions_width n (drop (behind b at) b) ≤ length (drop at b)
      unfolding conditions_width
      reach = omega (arith, l.within, width_here, ap (conditions_width n) rest_here)

      form_one : is_form (get_or b at 0) (get_or b (at + 1) 0) ≡ true
      form_one = parts.0

      room_one : behind b at ≤ length b
      room_one = omega (arith, reach, length-drop at b)

      next_one : ConditionsFirst n (drop (behind b at) b)
      next_one = record { formed = parts.1; within = omega (arith, reach, length-drop at b, length-drop (behind b at) b) }

-- ---- some are left

module _ (b : List ℕ) (at left : ℕ) (h : 0 < left) where
  one : left ≡ suc (left - 1)
  one = omega arith

  walk_first : (p : Condition → Bool) → some? p (conditions_in left (drop at b)) ≡ (p (condition_at b at) || some? p (conditions_in (left - 1) (drop (behind b at) b)))
  walk_first p = ap (λ (n : ℕ). some? p (conditions_in n (drop at b))) one ∙ test_one b at (left - 1) p

  module _ (l : ConditionsFirst left (drop at b)) where
    all : ConditionsFirst (suc (left - 1)) (drop at b)
    all = subst (λ (n : ℕ). ConditionsFirst n (drop at b)) one l

    walk_form : is_form (get_or b at 0) (get_or b (at + 1) 0) ≡ true
    walk_form = form_one b at (left - 1) all

    pub walk_room : behind b at ≤ length b
    walk_room = room_one b at (left - 1) all

    walk_next : ConditionsFirst (left - 1) (drop (behind b at) b)
    walk_next = next_one b at (left - 1) all

    -- the text is lent as a part of the bytes, k long
    module _ (k : ℕ) (e : k ≡ get_or b (at + 1) 0) where
      lent : take (at + 2 + k - (at + 2)) (drop (at + 2) b) ≡ part (at + 2) (get_or b (at + 1) 0) b
      unfolding part
      lent = let d : at + 2 + k - (at + 2) ≡ get_or b (at + 1) 0 = omega arith in rw d

      pub walk_lent_form : is_form (get_or b at 0) (length (take (at + 2 + k - (at + 2)) (drop (at + 2) b))) ≡ true
      walk_lent_form =
          ap (λ (n : ℕ). is_form (get_or b at 0) n) (ap length lent ∙ part_length (at + 2) (get_or b (at + 1) 0) b walk_room) ∙ walk_form

      -- whether it meets the property decides, and else the rest does
      pub walk_test : (p : Condition → Bool) (r : Bool) → r ≡ p (record { mode = get_or b at 0; text = take (at + 2 + k - (at + 2)) (drop (at + 2) b) })
          → some? p (conditions_in left (drop at b)) ≡ (r || some? p (conditions_in (left - 1) (drop (at + 2 + k) b)))
      walk_test p r t =
          walk_first p
          ∙ ap₂ (λ (c : Bool) (n : ℕ). c || some? p (conditions_in (left - 1) (drop (at + 2 + n) b)))
          (sym (t ∙ ap (λ (l : List ℕ). p (record { mode = get_or b at 0; text = l })) lent)) (sym e)

      pub walk_rest : ConditionsFirst (left - 1) (drop (at + 2 + k) b)
      walk_rest = subst (λ (n : ℕ). ConditionsFirst (left - 1) (drop (at + 2 + n) b)) (sym e) walk_next

-- ---- the test of them

module _ (b : List ℕ) (at left : ℕ) (h : 0 < left) (k : ℕ) (e : k ≡ get_or b (at + 1) 0) where
  pub test_first : are_conditions left (drop at b) ≡ (is_form (get_or b at 0) k && are_conditions (left - 1) (drop (at + 2 + k) b))
  unfolding are_conditions
  test_first =
      ap (λ (n : ℕ). are_conditions n (drop at b)) (one b at left h)
      ∙ ap₂ ◌&&◌ (ap₂ is_form (mode_here b at) (size_here b at)) (ap (are_conditions (left - 1)) (rest_here b at))
      ∙ ap (λ (n : ℕ). is_form (get_or b at 0) n && are_conditions (left - 1) (drop (at + 2 + n) b)) (sym e)

  pub test_width : at + conditions_width left (drop at b) ≡ at + 2 + k + conditions_width (left - 1) (drop (at + 2 + k) b)
  unfolding conditions_width
  test_width =
      let w : conditions_width left (drop at b) ≡ (2 + k) + conditions_width (left - 1) (drop (at + 2 + k) b) =
      ap (λ (n : ℕ). conditions_width n (drop at b)) (one b at left h)
      ∙ ap₂ ◌+◌ (width_here b at) (ap (conditions_width (left - 1)) (rest_here b at))
      ∙ ap (λ (n : ℕ). (2 + n) + conditions_width (left - 1) (drop (at + 2 + n) b)) (sym e) in
      omega arith

pub test_none : (bs : List ℕ) → (are_conditions 0 bs ≡ true) × (conditions_width 0 bs ≡ 0)
unfolding are_conditions conditions_width
test_none bs = (refl, refl)

-- none is left
pub walk_none : (bs : List ℕ) (p : Condition → Bool) → some? p (conditions_in 0 bs) ≡ false
unfolding conditions_in some?
walk_none bs p = refl

-- Conditions and their bytes give each other back, and what the bytes say of their own length is the same wherever they stand. Assumes nothing.
use mathlib.Core.Path.{◌≡◌, refl, sym, ap, ap₂, ◌∙◌}
use mathlib.Core.Logic.{◌⊎◌, inl, inr}
use mathlib.Core.Bool.{true, ◌&&◌}
use mathlib.Core.List.{List, [], ◌∷◌, ◌++◌}
use Prim.Native.Nat.{ℕ, zero, suc, ◌+◌, ◌*◌, ◌≤◌, ◌<◌}
use native.Mathlib.Omega.{arith}
use lib.ListN.{length, take, drop, get_or, length-append, length-drop, get_or-append}
use lib.Seq.{take_at, take-add, drop_at, get_or-drop, drop-cons, take-append-le, drop-append-le}
use borrow.Author.Tests.{lt-ltb}
use Rattle.octets.specs.Octets.{are_bytes, is_bytes, part}
use Rattle.octets.proofs.Numbers.{both, bytes_append, bytes_part}
use Rattle.octets.proofs.Places.{part_length, part_whole}
use Rattle.rules.specs.Command.{Condition, every, is_form, is_condition}
use Rattle.rules.proofs.Selection.{formed}
use Rattle.frame_fields.specs.Conditions.{first_width, first_of, conditions_in, conditions_width, are_conditions}
use Rattle.frame.specs.Field.{condition_bytes, conditions_bytes}
use Rattle.frame.proofs.Rows.{bytes_are, is_bytes_drop}

-- ---- one condition, with bytes behind it

module _ (c : Condition) (r : List ℕ) where
  first_width_lem : first_width (condition_bytes c ++ r) ≡ length (condition_bytes c)
  unfolding first_width condition_bytes
  first_width_lem = omega arith

  first_rest : drop (first_width (condition_bytes c ++ r)) (condition_bytes c ++ r) ≡ r
  first_rest = drop_at (condition_bytes c) r (first_width (condition_bytes c ++ r)) (sym first_width_lem)

  first_back : first_of (condition_bytes c ++ r) ≡ c
  unfolding first_of condition_bytes part
  first_back = ap (λ (t : List ℕ). record { mode = c.mode; text = t }) (take_at c.text r (length c.text) refl)

  first_form : is_condition c ≡ true → is_form (get_or (condition_bytes c ++ r) 0 0) (get_or (condition_bytes c ++ r) 1 0) ≡ true
  unfolding is_condition condition_bytes
  first_form h = (both (is_form c.mode (length c.text)) (are_bytes c.text) h).0

first_bytes : (c : Condition) → is_condition c ≡ true → are_bytes (condition_bytes c) ≡ true
unfolding is_condition condition_bytes are_bytes
first_bytes c h =
    let q = both (is_form c.mode (length c.text)) (are_bytes c.text) h in
    let f = formed c.mode (length c.text) q.0 in
    ap₂ ◌&&◌ (lt-ltb c.mode 256 (omega (arith, f.most))) (ap₂ ◌&&◌ (lt-ltb (length c.text) 256 (omega (arith, f.short))) q.1)

-- ---- writing

pub conditions_length : (cs : List Condition) → conditions_width (length cs) (conditions_bytes cs) ≡ length (conditions_bytes cs)
unfolding conditions_width conditions_bytes
conditions_length [] = refl
conditions_length (c ∷ cs) =
    let r = conditions_bytes cs in
    ap₂ ◌+◌ (first_width_lem c r) (ap (conditions_width (length cs)) (first_rest c r) ∙ conditions_length cs) ∙ sym (length-append (condition_bytes c) r)

pub conditions_bytes_lem : (cs : List Condition) → every is_condition cs ≡ true → are_bytes (conditions_bytes cs) ≡ true
unfolding every conditions_bytes are_bytes
conditions_bytes_lem [] h = refl
conditions_bytes_lem (c ∷ cs) h =
    let q = both (is_condition c) (every is_condition cs) h in
    bytes_append (condition_bytes c) (conditions_bytes cs) (first_bytes c q.0) (conditions_bytes_lem cs q.1)

pub conditions_may : (cs : List Condition) → every is_condition cs ≡ true → are_conditions (length cs) (conditions_bytes cs) ≡ true
unfolding every conditions_bytes are_conditions
conditions_may [] h = refl
conditions_may (c ∷ cs) h =
    let q = both (is_condition c) (every is_condition cs) h in
    ap₂ ◌&&◌ (first_form c (conditions_bytes cs) q.0) (ap (are_conditions (length cs)) (first_rest c (conditions_bytes cs)) ∙ conditions_may cs q.1)

pub conditions_back : (cs : List Condition) → conditions_in (length cs) (conditions_bytes cs) ≡ cs
unfolding conditions_in conditions_bytes
conditions_back [] = refl
conditions_back (c ∷ cs) = ap₂ ◌∷◌ (first_back c (conditions_bytes cs)) (ap (conditions_in (length cs)) (first_rest c (conditions_bytes cs)) ∙ conditions_back cs)

-- ---- reading

pub conditions_count : (n : ℕ) (bs : List ℕ) → length (conditions_in n bs) ≡ n
unfolding conditions_in
conditions_count zero bs = refl
conditions_count (suc n) bs = ap suc (conditions_count n (drop (first_width bs) bs))

module _ (n : ℕ) (bs : List ℕ) (b : is_bytes (conditions_width (suc n) bs) bs ≡ true) where
  room : first_width bs ≤ length bs
  unfolding conditions_width
  room = omega (arith, (bytes_are (conditions_width (suc n) bs) bs b).0)

  rest_bytes : is_bytes (conditions_width n (drop (first_width bs) bs)) (drop (first_width bs) bs) ≡ true
  unfolding conditions_width
  rest_bytes = is_bytes_drop (first_width bs) (conditions_width n (drop (first_width bs) bs)) bs b

  text_length : length (part 2 (get_or bs 1 0) bs) ≡ get_or bs 1 0
  unfolding first_width
  text_length = part_length 2 (get_or bs 1 0) bs room

  first_fits : is_form (get_or bs 0 0) (get_or bs 1 0) ≡ true → is_condition (first_of bs) ≡ true
  unfolding is_condition first_of
  first_fits h =
      ap₂ ◌&&◌ (ap (is_form (get_or bs 0 0)) text_length ∙ h) (bytes_part 2 (get_or bs 1 0) bs (bytes_are (conditions_width (suc n) bs) bs b).1)

pub conditions_fits : (n : ℕ) (bs : List ℕ) → is_bytes (conditions_width n bs) bs ≡ true → are_conditions n bs ≡ true → every is_condition (conditions_in n bs) ≡ true
unfolding every conditions_in are_conditions
conditions_fits zero bs b h = refl
conditions_fits (suc n) bs b h =
    let q = both (is_form (get_or bs 0 0) (get_or bs 1 0)) (are_conditions n (drop (first_width bs) bs)) h in
    ap₂ ◌&&◌ (first_fits n bs b q.0) (conditions_fits n (drop (first_width bs) bs) (rest_bytes n bs b) q.1)

-- conditions in front of other bytes
first_front : (v : List ℕ) → first_width v ≤ length v → condition_bytes (first_of v) ≡ take (first_width v) v
unfolding condition_bytes first_of first_width part
first_front v h =
    let e : v ≡ get_or v 0 0 ∷ get_or v 1 0 ∷ drop 2 v = drop-cons v 0 0 (omega arith) ∙ ap (λ (t : List ℕ). get_or v 0 0 ∷ t) (drop-cons v 1 0 (omega arith)) in
    let s : 2 + get_or v 1 0 ≡ suc (suc (get_or v 1 0)) = omega arith in
    ap (λ (k : ℕ). get_or v 0 0 ∷ k ∷ take (get_or v 1 0) (drop 2 v)) (part_length 2 (get_or v 1 0) v h)
    ∙ sym (ap (take (2 + get_or v 1 0)) e ∙ ap (λ (k : ℕ). take k (get_or v 0 0 ∷ get_or v 1 0 ∷ drop 2 v)) s)

pub conditions_front : (n : ℕ) (v : List ℕ) → conditions_width n v ≤ length v → conditions_bytes (conditions_in n v) ≡ part 0 (conditions_width n v) v
unfolding conditions_in conditions_bytes conditions_width part
conditions_front zero [] h = refl
conditions_front zero (x ∷ v) h = refl
conditions_front (suc n) v h =
    ap₂ ◌++◌ (first_front v (omega arith)) (conditions_front n (drop (first_width v) v) (omega (arith, length-drop (first_width v) v)))
    ∙ sym (take-add (first_width v) (conditions_width n (drop (first_width v) v)) v)

pub conditions_there : (n : ℕ) (bs : List ℕ) → is_bytes (conditions_width n bs) bs ≡ true → conditions_bytes (conditions_in n bs) ≡ bs
conditions_there n bs b =
    let e = (bytes_are (conditions_width n bs) bs b).0 in
    conditions_front n bs (omega (arith, e)) ∙ part_whole (conditions_width n bs) bs e

-- ---- wherever they stand

-- the bytes v stand at the beginning of b, and the conditions end within v
pub conditions_same : (n : ℕ) (b v : List ℕ) → ((k : ℕ) → k < length v → get_or b k 0 ≡ get_or v k 0) → (conditions_width n v ≤ length v) ⊎ (conditions_width n b ≤ length v)
    → (conditions_width n b ≡ conditions_width n v) × (are_conditions n b ≡ are_conditions n v)
unfolding conditions_width are_conditions first_width
conditions_same zero b v same w = (refl, refl)
conditions_same (suc n) b v same w =
    let two : 2 ≤ length v = least w in
    let e : first_width b ≡ first_width v = ap (λ (k : ℕ). 2 + k) (same 1 (omega arith)) in
    let d = first_width v in
    let i = conditions_same n (drop d b) (drop d v) (λ k h. get_or-drop d b k 0 ∙ same (d + k) (omega (arith, length-drop d v)) ∙ sym (get_or-drop d v k 0)) (past e w) in (
      ap₂ (λ (k m : ℕ). k + m) e (ap (λ (k : ℕ). conditions_width n (drop k b)) e ∙ i.0),
      ap₂ ◌&&◌ (ap₂ is_form (same 0 (omega arith)) (same 1 (omega arith))) (ap (λ (k : ℕ). are_conditions n (drop k b)) e ∙ i.1),
    )
  where
    least : (conditions_width (suc n) v ≤ length v) ⊎ (conditions_width (suc n) b ≤ length v) → 2 ≤ length v
    least (inl h) = omega arith
    least (inr h) = omega arith

    past : first_width b ≡ first_width v → (conditions_width (suc n) v ≤ length v) ⊎ (conditions_width (suc n) b ≤ length v)
        → (conditions_width n (drop (first_width v) v) ≤ length (drop (first_width v) v)) ⊎ (conditions_width n (drop (first_width v) b) ≤ length (drop (first_width v) v))
    past e (inl h) = inl (omega (arith, h, length-drop (first_width v) v))
    past e (inr h) = inr (omega (arith, h, length-drop (first_width v) v, ap (λ (k : ℕ). conditions_width n (drop k b)) e, e))

-- bytes behind them are not looked at
pub conditions_append : (n : ℕ) (v r : List ℕ) → conditions_width n v ≤ length v → conditions_in n (v ++ r) ≡ conditions_in n v
unfolding conditions_in conditions_width first_of first_width part
conditions_append zero v r h = refl
conditions_append (suc n) v r h =
    let k = get_or v 1 0 in
    let a : get_or (v ++ r) 0 0 ≡ get_or v 0 0 = get_or-append v r 0 0 (omega arith) in
    let b : get_or (v ++ r) 1 0 ≡ k = get_or-append v r 0 1 (omega arith) in
    let t : take k (drop 2 (v ++ r)) ≡ take k (drop 2 v) =
    ap (take k) (drop-append-le 2 v r (omega arith)) ∙ take-append-le k (drop 2 v) r (omega (arith, length-drop 2 v)) in
    let d : drop (2 + k) (v ++ r) ≡ drop (2 + k) v ++ r = drop-append-le (2 + k) v r (omega arith) in
    rw (a, b, t, d) (ap (λ (l : List Condition). record { mode = get_or v 0 0; text = take k (drop 2 v) } ∷ l) (conditions_append n (drop (2 + k) v) r (omega (arith, length-drop (2 + k) v))))

-- ---- n conditions take at most 12 bytes each

pub conditions_most : (n : ℕ) (bs : List ℕ) → are_conditions n bs ≡ true → conditions_width n bs ≤ n * 12
unfolding conditions_width are_conditions first_width
conditions_most zero bs h = omega arith
conditions_most (suc n) bs h =
    let q = both (is_form (get_or bs 0 0) (get_or bs 1 0)) (are_conditions n (drop (2 + get_or bs 1 0) bs)) h in
    omega (arith, (formed (get_or bs 0 0) (get_or bs 1 0) q.0).short, conditions_most n (drop (2 + get_or bs 1 0) bs) q.1)

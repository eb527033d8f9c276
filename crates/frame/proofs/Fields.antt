-- A value that fits a field and its bytes give each other back, and so do the values and the bytes of fields one after the other. Assumes nothing.
use mathlib.Core.Path.{◌≡◌, refl, sym, ap, ap₂, ◌∙◌}
use mathlib.Core.Bool.{Bool, true, ◌&&◌, false≢true}
use mathlib.Core.Logic.{◌⊎◌, inl, inr}
use mathlib.Core.List.{List, [], ◌∷◌, ◌++◌, append_assoc, append-nil}
use Prim.Native.Nat.{ℕ, ◌+◌, ◌*◌, ◌^◌, ◌<◌, ◌≤◌}
use native.Mathlib.Omega.{arith}
use lib.ListN.{length, take, drop, get_or, length-append, length-drop, take-append-drop, drop_of_length-le, get_or-append}
use lib.Seq.{take_at, drop-cons, drop-append_seam, drop-drop, get_or-append-add, get_or-take, get_or-drop}
use lib.Dec.{leb, ltb}
use borrow.Author.Tests.{ltb-true, leb-true, eqb-true, lt-ltb, eq-eqb}
use Rattle.octets.specs.Octets.{big_endian, number_from, number, are_bytes, is_bytes, part}
use Rattle.octets.proofs.Numbers.{bytes_append, bytes_part, length_big_endian, is_bytes_big_endian, number_big_endian, big_endian_number, both}
use Rattle.octets.proofs.Places.{part_length, whole_bytes}
use Rattle.rules.specs.Command.{is_code, is_count, every, is_condition, is_few}
use Rattle.rules.specs.Message.{decimal, digits}
use Rattle.frame_fields.specs.Place.{six_digits, word_at}
use Rattle.frame_fields.specs.Conditions.{conditions_width, are_conditions}
use Rattle.frame.specs.Field.{Field, Code, UpTo, Second, Free, Items, Conditions, Never, row_size, width, may, Value, row_fits, fits, rows_bytes, conditions_bytes, bytes_of, value_of, are_fields, Values, all_fit, all_bytes, all_values}
use Rattle.frame.proofs.Texts.{conditions_length, conditions_bytes_lem, conditions_may, conditions_back, conditions_count, conditions_fits, conditions_there, conditions_same}
use Rattle.rules.proofs.Digits.{between, length_digits, digits_bytes, digits_digits, decimal_digits, digits_decimal, decimal_below}
use Rattle.frame.proofs.Digits.{six_digits_lem}
use Rattle.frame.proofs.Rows.{is_bytes_lem, bytes_are, is_bytes_drop, plain_bytes_lem, plain_back, plain_fits_lem, plain_there, rows_bytes_lem, rows_back, rows_length, rows_fits, rows_there}

-- ---- one field

-- a limit on a byte that a byte can hold
unfoldable pub narrow : Field → Bool
narrow Code = true
narrow (UpTo m) = ltb m 256
narrow Second = true
narrow (Free p) = true
narrow (Items ps) = true
narrow Conditions = true
narrow Never = true

-- four bytes as a number
word_number : (bs : List ℕ) → length bs ≡ 4 → word_at bs 0 ≡ number bs
unfolding word_at number number_from
word_number bs e = sym (ap number (whole_bytes 3 bs e) ∙ omega arith)

pub few_range : (n : ℕ) → is_few n ≡ true → (1 ≤ n) × (n ≤ 8)
unfolding is_few
few_range n h = between 1 n 8 h

count_range : (n : ℕ) → is_count n ≡ true → (1 ≤ n) × (n ≤ 16)
unfolding is_count
count_range n h = between 1 n 16 h

pub field_bytes : (f : Field) (v : Value f) → narrow f ≡ true → fits f v ≡ true → is_bytes (width f (bytes_of f v) 0) (bytes_of f v) ≡ true
unfolding narrow fits width bytes_of are_bytes
field_bytes Code v m h = is_bytes_lem 6 (digits 6 v) (length_digits 6 v) (digits_bytes (digits 6 v) (digits_digits 6 v))
field_bytes (UpTo m) v n h = is_bytes_lem 1 (v ∷ []) refl (ap (λ (t : Bool). t && true) (lt-ltb v 256 (omega (arith, ltb-true m 256 n, leb-true v m h))))
field_bytes Second v m h = is_bytes_big_endian 4 v
field_bytes (Free p) v m h = plain_bytes_lem p v h
field_bytes (Items ps) v m h =
    let q = both (is_count (length v)) (every (row_fits ps) v) h in
    let b = bytes_are (length v * row_size ps) (rows_bytes ps v) (rows_bytes_lem ps v q.1) in
    is_bytes_lem (1 + length v * row_size ps) (length v ∷ rows_bytes ps v) (omega arith)
    (ap₂ ◌&&◌ (lt-ltb (length v) 256 (omega (arith, (count_range (length v) q.0).1))) b.1)
field_bytes Conditions v m h =
    let q = both (is_few (length v)) (every is_condition v) h in
    is_bytes_lem (1 + conditions_width (length v) (conditions_bytes v)) (length v ∷ conditions_bytes v) (omega (arith, conditions_length v))
    (ap₂ ◌&&◌ (lt-ltb (length v) 256 (omega (arith, (few_range (length v) q.0).1))) (conditions_bytes_lem v q.1))
field_bytes Never v m h = absurd (false≢true h)

pub field_may : (f : Field) (v : Value f) → fits f v ≡ true → may f (bytes_of f v) 0 ≡ true
unfolding fits may bytes_of
field_may Code v h = six_digits_lem (digits 6 v) (length_digits 6 v) ∙ digits_digits 6 v
field_may (UpTo m) v h = h
field_may Second v h = ap (λ (n : ℕ). leb n 86399) (word_number (big_endian 4 v) (length_big_endian 4 v) ∙ number_big_endian 4 v (omega (arith, leb-true v 86399 h))) ∙ h
field_may (Free p) v h = refl
field_may (Items ps) v h = (both (is_count (length v)) (every (row_fits ps) v) h).0
field_may Conditions v h = let q = both (is_few (length v)) (every is_condition v) h in ap₂ ◌&&◌ q.0 (conditions_may v q.1)
field_may Never v h = h

pub field_back : (f : Field) (v : Value f) → fits f v ≡ true → value_of f (bytes_of f v) ≡ v
unfolding fits bytes_of value_of is_code
field_back Code v h = decimal_digits 6 v (ltb-true v (10 ^ 6) h)
field_back (UpTo m) v h = refl
field_back Second v h = number_big_endian 4 v (omega (arith, leb-true v 86399 h))
field_back (Free p) v h = plain_back p v h
field_back (Items ps) v h = rows_back ps v (both (is_count (length v)) (every (row_fits ps) v) h).1
field_back Conditions v h = conditions_back v
field_back Never v h = refl

pub field_fits : (f : Field) (bs : List ℕ) → is_bytes (width f bs 0) bs ≡ true → may f bs 0 ≡ true → fits f (value_of f bs) ≡ true
unfolding fits may width value_of is_code
field_fits Code bs b h =
    let q = bytes_are 6 bs b in
    lt-ltb (decimal 0 bs) (10 ^ 6) (rw q.0 at (decimal_below bs (sym (six_digits_lem bs q.0) ∙ h)))
field_fits (UpTo m) bs b h = h
field_fits Second bs b h = ap (λ (n : ℕ). leb n 86399) (sym (word_number bs (bytes_are 4 bs b).0)) ∙ h
field_fits (Free p) bs b h = plain_fits_lem p bs b
field_fits (Items ps) bs b h =
    let n = get_or bs 0 0 in
    ap₂ ◌&&◌ (ap is_count (rows_length ps n (drop 1 bs)) ∙ h) (rows_fits ps n (drop 1 bs) (is_bytes_drop 1 (n * row_size ps) bs b))
field_fits Conditions bs b h =
    let n = get_or bs 0 0 in
    let q = both (is_few n) (are_conditions n (drop 1 bs)) h in
    ap₂ ◌&&◌ (ap is_few (conditions_count n (drop 1 bs)) ∙ q.0) (conditions_fits n (drop 1 bs) (is_bytes_drop 1 (conditions_width n (drop 1 bs)) bs b) q.1)
field_fits Never bs b h = h

pub field_there : (f : Field) (bs : List ℕ) → is_bytes (width f bs 0) bs ≡ true → may f bs 0 ≡ true → bytes_of f (value_of f bs) ≡ bs
unfolding may width bytes_of value_of
field_there Code bs b h =
    let q = bytes_are 6 bs b in
    ap (λ (k : ℕ). digits k (decimal 0 bs)) (sym q.0) ∙ digits_decimal bs (sym (six_digits_lem bs q.0) ∙ h)
field_there (UpTo m) bs b h = sym (whole_bytes 0 bs (bytes_are 1 bs b).0)
field_there Second bs b h =
    let q = bytes_are 4 bs b in
    ap (λ (k : ℕ). big_endian k (number bs)) (sym q.0) ∙ big_endian_number bs q.1
field_there (Free p) bs b h = plain_there p bs b
field_there (Items ps) bs b h =
    let n = get_or bs 0 0 in
    ap₂ ◌∷◌ (rows_length ps n (drop 1 bs)) (rows_there ps n (drop 1 bs) (is_bytes_drop 1 (n * row_size ps) bs b))
    ∙ sym (drop-cons bs 0 0 (omega (arith, (bytes_are (1 + n * row_size ps) bs b).0)))
field_there Conditions bs b h =
    let n = get_or bs 0 0 in
    ap₂ ◌∷◌ (conditions_count n (drop 1 bs)) (conditions_there n (drop 1 bs) (is_bytes_drop 1 (conditions_width n (drop 1 bs)) bs b))
    ∙ sym (drop-cons bs 0 0 (omega (arith, (bytes_are (1 + conditions_width n (drop 1 bs)) bs b).0)))
field_there Never bs b h = absurd (false≢true h)

-- ---- a field at its place

-- the bytes that a field takes at least
unfoldable pub least : Field → ℕ
least Code = 6
least (UpTo m) = 1
least Second = 4
least (Free p) = 0
least (Items ps) = 1
least Conditions = 1
least Never = 0

pub least_width : (f : Field) (b : List ℕ) (i : ℕ) → least f ≤ width f b i
unfolding least width
least_width Code b i = omega arith
least_width (UpTo m) b i = omega arith
least_width Second b i = omega arith
least_width (Free p) b i = omega arith
least_width (Items ps) b i = omega arith
least_width Conditions b i = omega arith
least_width Never b i = omega arith

-- a field at the place i of b, or at the beginning of v, ends within v
abbrev pub Ends : List ℕ → List ℕ → ℕ → Field → Type 0
Ends b v i f = (width f v 0 ≤ length v) ⊎ (width f b i ≤ length v)

-- the bytes v stand at the place i of b
module _ (b v : List ℕ) (i : ℕ) (same : (k : ℕ) → k < length v → get_or b (i + k) 0 ≡ get_or v k 0) where
  first : 0 < length v → get_or b i 0 ≡ get_or v 0 0
  first h = let e : i ≡ i + 0 = omega arith in ap (λ (k : ℕ). get_or b k 0) e ∙ same 0 h

  ends_least : (f : Field) → Ends b v i f → least f ≤ length v
  ends_least f (inl h) = omega (arith, h, least_width f v 0)
  ends_least f (inr h) = omega (arith, h, least_width f b i)

  conditions_here : Ends b v i Conditions
      → (conditions_width (get_or b i 0) (drop (i + 1) b) ≡ conditions_width (get_or v 0 0) (drop 1 v)) × (are_conditions (get_or b i 0) (drop (i + 1) b) ≡ are_conditions (get_or v 0 0) (drop 1 v))
  unfolding width least
  conditions_here w =
      let e = first (ends_least Conditions w) in
      let r = conditions_same (get_or v 0 0) (drop (i + 1) b) (drop 1 v) later (go e w) in
      (ap (λ (n : ℕ). conditions_width n (drop (i + 1) b)) e ∙ r.0, ap (λ (n : ℕ). are_conditions n (drop (i + 1) b)) e ∙ r.1)
    where
      later : (k : ℕ) → k < length (drop 1 v) → get_or (drop (i + 1) b) k 0 ≡ get_or (drop 1 v) k 0
      later k h =
          let s : i + 1 + k ≡ i + (1 + k) = omega arith in
          get_or-drop (i + 1) b k 0 ∙ ap (λ (j : ℕ). get_or b j 0) s ∙ same (1 + k) (omega (arith, length-drop 1 v)) ∙ sym (get_or-drop 1 v k 0)

      go : get_or b i 0 ≡ get_or v 0 0 → Ends b v i Conditions
          → (conditions_width (get_or v 0 0) (drop 1 v) ≤ length (drop 1 v)) ⊎ (conditions_width (get_or v 0 0) (drop (i + 1) b) ≤ length (drop 1 v))
      go e (inl h) = inl (omega (arith, h, length-drop 1 v))
      go e (inr h) = inr (omega (arith, h, length-drop 1 v, ap (λ (n : ℕ). conditions_width n (drop (i + 1) b)) e))

  pub width_same : (f : Field) → Ends b v i f → width f b i ≡ width f v 0
  unfolding least width
  width_same Code h = refl
  width_same (UpTo m) h = refl
  width_same Second h = refl
  width_same (Free p) h = refl
  width_same (Items ps) h = ap (λ (n : ℕ). 1 + n * row_size ps) (first (ends_least (Items ps) h))
  width_same Conditions h = ap (λ (n : ℕ). 1 + n) (conditions_here h).0
  width_same Never h = refl

  pub may_same : (f : Field) → Ends b v i f → may f b i ≡ may f v 0
  unfolding least may six_digits word_at
  may_same Code h =
      let l = ends_least Code h in
      rw (first (omega arith), same 1 (omega arith), same 2 (omega arith), same 3 (omega arith), same 4 (omega arith), same 5 (omega arith))
  may_same (UpTo m) h = ap (λ (n : ℕ). leb n m) (first (ends_least (UpTo m) h))
  may_same Second h = let l = ends_least Second h in rw (first (omega arith), same 1 (omega arith), same 2 (omega arith), same 3 (omega arith))
  may_same (Free p) h = refl
  may_same (Items ps) h = ap is_count (first (ends_least (Items ps) h))
  may_same Conditions h = ap₂ ◌&&◌ (ap is_few (first (ends_least Conditions h))) (conditions_here h).1
  may_same Never h = refl

-- ---- fields one after the other: writing

pub all_bytes_lem : (fs : List Field) (v : Values fs) → every narrow fs ≡ true → all_fit fs v ≡ true → are_bytes (all_bytes fs v) ≡ true
unfolding every all_fit all_bytes are_bytes
all_bytes_lem [] v n h = refl
all_bytes_lem (f ∷ fs) v n h =
    let m = both (narrow f) (every narrow fs) n in
    let q = both (fits f v.0) (all_fit fs v.1) h in
    bytes_append (bytes_of f v.0) (all_bytes fs v.1) (bytes_are (width f (bytes_of f v.0) 0) (bytes_of f v.0) (field_bytes f v.0 m.0 q.0)).1
    (all_bytes_lem fs v.1 m.1 q.1)

-- the bytes of a value, with others before and behind
module _ (f : Field) (x : Value f) (p r : List ℕ) (n : narrow f ≡ true) (h : fits f x ≡ true) where
  there : (k : ℕ) → k < length (bytes_of f x) → get_or (p ++ (bytes_of f x ++ r)) (length p + k) 0 ≡ get_or (bytes_of f x) k 0
  there k g = get_or-append-add p (bytes_of f x ++ r) k 0 ∙ get_or-append (bytes_of f x) r 0 k g

  own : length (bytes_of f x) ≡ width f (bytes_of f x) 0
  own = (bytes_are (width f (bytes_of f x) 0) (bytes_of f x) (field_bytes f x n h)).0

  enough : Ends (p ++ (bytes_of f x ++ r)) (bytes_of f x) (length p) f
  enough = inl (omega (arith, own))

  pub may_there : may f (p ++ (bytes_of f x ++ r)) (length p) ≡ true
  may_there = may_same (p ++ (bytes_of f x ++ r)) (bytes_of f x) (length p) there f enough ∙ field_may f x h

  pub width_there : width f (p ++ (bytes_of f x ++ r)) (length p) ≡ length (bytes_of f x)
  width_there = width_same (p ++ (bytes_of f x ++ r)) (bytes_of f x) (length p) there f enough ∙ sym own

  pub value_there : value_of f (part (length p) (width f (p ++ (bytes_of f x ++ r)) (length p)) (p ++ (bytes_of f x ++ r))) ≡ x
  unfolding part
  value_there =
      ap (value_of f)
      (ap (take (width f (p ++ (bytes_of f x ++ r)) (length p))) (drop-append_seam p (bytes_of f x ++ r))
      ∙ take_at (bytes_of f x) r (width f (p ++ (bytes_of f x ++ r)) (length p)) (sym width_there))
      ∙ field_back f x h

  -- what is asked of the rest is asked behind these bytes
  next_there : {A : Type 0} (g : List ℕ → ℕ → A) → g (p ++ (bytes_of f x ++ r)) (length p + width f (p ++ (bytes_of f x ++ r)) (length p))
      ≡ g (p ++ bytes_of f x ++ r) (length (p ++ bytes_of f x))
  next_there g =
      ap₂ g (sym (append_assoc p (bytes_of f x) r)) (ap (λ (k : ℕ). length p + k) width_there ∙ sym (length-append p (bytes_of f x)))

pub fields_there : (fs : List Field) (v : Values fs) (p : List ℕ) → every narrow fs ≡ true → all_fit fs v ≡ true → are_fields fs (p ++ all_bytes fs v) (length p) ≡ true
unfolding every all_fit all_bytes are_fields
fields_there [] v p n h = eq-eqb (length (p ++ [])) (length p) (ap length (append-nil p))
fields_there (f ∷ fs) v p n h =
    let m = both (narrow f) (every narrow fs) n in
    let q = both (fits f v.0) (all_fit fs v.1) h in
    let r = all_bytes fs v.1 in
    ap₂ ◌&&◌ (may_there f v.0 p r m.0 q.0)
    (next_there f v.0 p r m.0 q.0 (are_fields fs) ∙ fields_there fs v.1 (p ++ bytes_of f v.0) m.1 q.1)

pub values_there : (fs : List Field) (v : Values fs) (p : List ℕ) → every narrow fs ≡ true → all_fit fs v ≡ true → all_values fs (p ++ all_bytes fs v) (length p) ≡ v
unfolding every all_fit all_bytes all_values
values_there [] v p n h = refl
values_there (f ∷ fs) v p n h =
    let m = both (narrow f) (every narrow fs) n in
    let q = both (fits f v.0) (all_fit fs v.1) h in
    let r = all_bytes fs v.1 in
    let s = value_there f v.0 p r m.0 q.0 in
    let t = next_there f v.0 p r m.0 q.0 (all_values fs) ∙ values_there fs v.1 (p ++ bytes_of f v.0) m.1 q.1 in
    λ i. (s i, t i)

-- ---- reading

-- fields end where the bytes do
pub fields_within : (fs : List Field) (b : List ℕ) (i : ℕ) → are_fields fs b i ≡ true → i ≤ length b
unfolding are_fields
fields_within [] b i h = omega (arith, eqb-true (length b) i h)
fields_within (f ∷ fs) b i h = omega (arith, fields_within fs b (i + width f b i) (both (may f b i) (are_fields fs b (i + width f b i)) h).1)

-- the bytes of a field, out of longer ones
module _ (f : Field) (b : List ℕ) (i : ℕ) (a : are_bytes b ≡ true) (h : may f b i ≡ true) (l : i + width f b i ≤ length b) where
  here : List ℕ
  here = part i (width f b i) b

  same_here : (k : ℕ) → k < length here → get_or b (i + k) 0 ≡ get_or here k 0
  unfolding here part
  same_here k g = sym (get_or-take (width f b i) (drop i b) k 0 (omega (arith, part_length i (width f b i) b l)) ∙ get_or-drop i b k 0)

  enough_here : Ends b here i f
  unfolding here
  enough_here = inr (omega (arith, part_length i (width f b i) b l))

  may_here : may f here 0 ≡ true
  may_here = sym (may_same b here i same_here f enough_here) ∙ h

  bytes_here : is_bytes (width f here 0) here ≡ true
  unfolding here
  bytes_here =
      is_bytes_lem (width f here 0) here (part_length i (width f b i) b l ∙ width_same b here i same_here f enough_here) (bytes_part i (width f b i) b a)

  pub fits_here : fits f (value_of f (part i (width f b i) b)) ≡ true
  unfolding here
  fits_here = field_fits f here bytes_here may_here

  pub there_here : bytes_of f (value_of f (part i (width f b i) b)) ≡ part i (width f b i) b
  unfolding here
  there_here = field_there f here bytes_here may_here

pub all_fit_lem : (fs : List Field) (b : List ℕ) (i : ℕ) → are_bytes b ≡ true → are_fields fs b i ≡ true → all_fit fs (all_values fs b i) ≡ true
unfolding are_fields all_fit all_values
all_fit_lem [] b i a h = refl
all_fit_lem (f ∷ fs) b i a h =
    let w = width f b i in
    let q = both (may f b i) (are_fields fs b (i + w)) h in
    ap₂ ◌&&◌ (fits_here f b i a q.0 (fields_within fs b (i + w) q.1)) (all_fit_lem fs b (i + w) a q.1)

pub all_there : (fs : List Field) (b : List ℕ) (i : ℕ) → are_bytes b ≡ true → are_fields fs b i ≡ true → all_bytes fs (all_values fs b i) ≡ drop i b
unfolding are_fields all_bytes all_values part
all_there [] b i a h = sym (drop_of_length-le b {i = i} (omega (arith, eqb-true (length b) i h)))
all_there (f ∷ fs) b i a h =
    let w = width f b i in
    let q = both (may f b i) (are_fields fs b (i + w)) h in
    ap₂ ◌++◌ (there_here f b i a q.0 (fields_within fs b (i + w) q.1)) (all_there fs b (i + w) a q.1 ∙ sym (drop-drop w i b))
    ∙ take-append-drop w (drop i b)

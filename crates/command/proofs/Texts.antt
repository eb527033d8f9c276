-- The conditions of a search in an array: when they are in range. Assumes nothing.
use mathlib.Core.Path.{◌≡◌, refl, sym, ap, ap₂, ◌∙◌}
use mathlib.Core.Bool.{Bool, true, false, ◌&&◌, and-true}
use mathlib.Core.List.{List}
use Prim.Native.Nat.{ℕ, zero, suc, ◌+◌, ◌-◌, ◌*◌, ◌≤◌, ◌<◌, min}
use native.Mathlib.Omega.{arith}
use native.Mathlib.Decide.{dec_le}
use lib.ListN.{length, drop, get_or, length-take, length-drop}
use lib.Dec.{leb}
use mir.Syntax.{w8}
use mir.Val.{Val, Fits}
use denote.Shadow.{shadow}
use Rattle.octets.specs.Octets.{are_bytes, part}
use Rattle.octets.proofs.Numbers.{both, bytes_drop, bytes_part}
use Rattle.octets.proofs.Places.{part_length}
use Rattle.rules.specs.Command.{Search, every, is_code, is_header, is_form, is_condition, is_few, well_formed}
use Rattle.rules.proofs.Selection.{formed}
use Rattle.frame_fields.specs.Conditions.{first_width, first_of, conditions_in, are_conditions}
use Rattle.frame.proofs.Texts.{conditions_count}
use Rattle.frame.proofs.Fields.{few_range}
use Rattle.command.specs.contracts.Header as ByHeader
use Rattle.command.specs.declared.Header.{Header}
use Rattle.command.specs.View.{to_header}
use Rattle.command.proofs.Forms.{bytes_fit, header_formed}

-- ---- in range

too_long : (m n : ℕ) → 10 < n → is_form m n ≡ false
too_long m n g = go (is_form m n) refl
  where
    go : (t : Bool) → is_form m n ≡ t → t ≡ false
    go true e = absurd (omega (arith, (formed m n e).short))
    go false e = refl

cut_length_lem : (k : ℕ) (v : List ℕ) → length (part 2 k v) ≡ min k (length v - 2)
unfolding part
cut_length_lem k v = simp (length-take, length-drop)

-- the length byte says the text's length, or both are too long
form_same : (m k : ℕ) (v : List ℕ) → 12 < length v → is_form m (length (part 2 k v)) ≡ is_form m k
form_same m k v h = go (dec_le (2 + k) (length v))
  where
    go : Dec (2 + k ≤ length v) → is_form m (length (part 2 k v)) ≡ is_form m k
    go (yes p) = ap (is_form m) (part_length 2 k v p)
    go (no p) = too_long m (length (part 2 k v)) (omega (arith, cut_length_lem k v)) ∙ sym (too_long m k (omega arith))

first_range : (v : List ℕ) → 12 < length v → are_bytes v ≡ true → is_condition (first_of v) ≡ is_form (get_or v 0 0) (get_or v 1 0)
unfolding is_condition first_of
first_range v h b =
    ap₂ ◌&&◌ (form_same (get_or v 0 0) (get_or v 1 0) v h) (bytes_part 2 (get_or v 1 0) v b) ∙ and-true (is_form (get_or v 0 0) (get_or v 1 0))

and_both : (a b c d : Bool) → a ≡ c → (c ≡ true → b ≡ d) → (a && b) ≡ (c && d)
and_both a b true d e f = ap₂ ◌&&◌ e (f refl)
and_both a b false d e f = ap (λ (t : Bool). t && b) e

-- in an array that is longer than n conditions can be
pub conditions_range : (n : ℕ) (v : List ℕ) → n * 12 < length v → are_bytes v ≡ true → every is_condition (conditions_in n v) ≡ are_conditions n v
unfolding every conditions_in are_conditions first_width
conditions_range zero v h b = refl
conditions_range (suc n) v h b =
    and_both _ _ _ _ (first_range v (omega arith) b)
    (λ f. conditions_range n (drop (first_width v) v) (omega (arith, length-drop (first_width v) v, width f)) (bytes_drop (first_width v) v b))
  where
    width : is_form (get_or v 0 0) (get_or v 1 0) ≡ true → first_width v ≤ 12
    width f = omega (arith, (formed (get_or v 0 0) (get_or v 1 0) f).short)

-- ---- a search

pub few_most : (h : Header) (n : ℕ) → ((is_code h.sender && leb h.second 86399) && is_few n) ≡ true → (1 ≤ n) × (n ≤ 8)
few_most h n e = few_range n (both (is_code h.sender && leb h.second 86399) (is_few n) e).1

pub search_formed : (h : Header) (vs : List Val) → shadow (ByHeader.the_row.own_val h vs) → (n : ℕ) (v : List ℕ) → ((k : ℕ) → Fits w8 (get_or v k 0)) → length v ≡ 160
    → well_formed (Search (to_header h) (conditions_in n v)) ≡ (((is_code h.sender && leb h.second 86399) && is_few n) && are_conditions n v)
unfolding well_formed
search_formed h vs t n v b l =
    and_both (is_header (to_header h) && is_few (length (conditions_in n v))) (every is_condition (conditions_in n v)) ((is_code h.sender && leb h.second 86399) && is_few n) (are_conditions n v)
    (ap₂ ◌&&◌ (header_formed h vs t) (ap is_few (conditions_count n v)))
    (λ e. conditions_range n v (omega (arith, (few_most h n e).1)) (bytes_fit v b))

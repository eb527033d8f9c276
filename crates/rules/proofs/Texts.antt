-- Laws of a text in an id: where it begins, where it stands, and when it is the id. Assumes nothing.
use mathlib.Core.Path.{◌≡◌, refl, sym, ap, ap₂, ◌∙◌}
use mathlib.Core.Bool.{Bool, true, false, ◌&&◌, ◌||◌, false≢true, and-false, or-true, or-false}
use mathlib.Core.List.{List, [], ◌∷◌, ◌++◌}
use Prim.Native.Nat.{ℕ, ◌<◌}
use native.Mathlib.Omega.{arith}
use lib.ListN.{length}
use lib.Dec.{eqb}
use borrow.Author.Tests.{eqb-true, eq-eqb}
use Rattle.octets.proofs.Numbers.{both}
use Rattle.rules.specs.Message.{same_bytes}
use Rattle.rules.specs.Search.{begins, contains}
use Rattle.rules.specs.Selection.{Stands}

-- ---- a text that is longer than what is left

pub begins_short : (text id : List ℕ) → length id < length text → begins text id ≡ false
unfolding begins
begins_short [] id h = absurd (omega arith)
begins_short (a ∷ text) [] h = refl
begins_short (a ∷ text) (b ∷ id) h = rw (begins_short text id (omega arith)) (and-false (eqb a b))

pub contains_short : (text id : List ℕ) → length id < length text → contains text id ≡ false
unfolding contains
contains_short text [] h = begins_short text [] h
contains_short text (b ∷ id) h = rw (begins_short text (b ∷ id) h, contains_short text id (omega arith))

-- ---- a text as long as the id

begins_same : (text id : List ℕ) → length text ≡ length id → begins text id ≡ same_bytes text id
unfolding begins same_bytes
begins_same [] [] e = refl
begins_same [] (b ∷ id) e = absurd (omega arith)
begins_same (a ∷ text) [] e = refl
begins_same (a ∷ text) (b ∷ id) e = ap (λ (t : Bool). eqb a b && t) (begins_same text id (omega arith))

-- it stands in the id only where it is the id
pub contains_same : (text id : List ℕ) → length text ≡ length id → contains text id ≡ same_bytes text id
unfolding contains
contains_same text [] e = begins_same text [] e
contains_same text (b ∷ id) e =
    rw (contains_short text id (omega arith)) (or-false (begins text (b ∷ id)) ∙ begins_same text (b ∷ id) e)

-- ---- the test is true exactly where the text is the id

pub same_bytes_lem : (text id : List ℕ) → same_bytes text id ≡ true → text ≡ id
unfolding same_bytes
same_bytes_lem [] [] h = refl
same_bytes_lem [] (b ∷ id) h = absurd (false≢true h)
same_bytes_lem (a ∷ text) [] h = absurd (false≢true h)
same_bytes_lem (a ∷ text) (b ∷ id) h =
    let q = both (eqb a b) (same_bytes text id) h in
    ap₂ ◌∷◌ (eqb-true a b q.0) (same_bytes_lem text id q.1)

bytes_self : (id : List ℕ) → same_bytes id id ≡ true
unfolding same_bytes
bytes_self [] = refl
bytes_self (b ∷ id) = ap₂ ◌&&◌ (eq-eqb b b refl) (bytes_self id)

pub bytes_same : (text id : List ℕ) → text ≡ id → same_bytes text id ≡ true
bytes_same text id e = ap (λ (t : List ℕ). same_bytes t id) e ∙ bytes_self id

-- ---- the test is true exactly where the text stands in the id

begins_front : (text id : List ℕ) → begins text id ≡ true → (r : List ℕ) × (id ≡ text ++ r)
unfolding begins
begins_front [] id h = (id, refl)
begins_front (a ∷ text) [] h = absurd (false≢true h)
begins_front (a ∷ text) (b ∷ id) h =
    let q = both (eqb a b) (begins text id) h in
    let r = begins_front text id q.1 in
    (r.0, ap₂ ◌∷◌ (sym (eqb-true a b q.0)) r.1)

front_begins : (text r : List ℕ) → begins text (text ++ r) ≡ true
unfolding begins
front_begins [] r = refl
front_begins (a ∷ text) r = ap₂ ◌&&◌ (eq-eqb a a refl) (front_begins text r)

pub contains_stands : (text id : List ℕ) → contains text id ≡ true → Stands text id
unfolding contains
contains_stands text [] h = let r = begins_front text [] h in record { before = []; behind = r.0; whole = r.1 }
contains_stands text (b ∷ id) h = go (begins text (b ∷ id)) refl (contains_stands text id)
  where
    go : (t : Bool) → begins text (b ∷ id) ≡ t → (contains text id ≡ true → Stands text id) → Stands text (b ∷ id)
    go true e rest = let r = begins_front text (b ∷ id) e in record { before = []; behind = r.0; whole = r.1 }
    go false e rest =
        let s = rest (sym (ap (λ (t : Bool). t || contains text id) e) ∙ h) in
        record { before = b ∷ s.before; behind = s.behind; whole = ap (λ (l : List ℕ). b ∷ l) s.whole }

-- a text that stands at the beginning stands in the id
pub contains_front : (text id : List ℕ) → begins text id ≡ true → contains text id ≡ true
unfolding contains
contains_front text [] e = e
contains_front text (b ∷ id) e = rw e

stands_behind : (text before behind : List ℕ) → contains text (before ++ (text ++ behind)) ≡ true
unfolding contains
stands_behind text [] behind = contains_front text (text ++ behind) (front_begins text behind)
stands_behind text (b ∷ before) behind = rw (stands_behind text before behind) (or-true (begins text (b ∷ (before ++ (text ++ behind)))))

pub stands_contains : (text id : List ℕ) → Stands text id → contains text id ≡ true
stands_contains text id s = ap (contains text) s.whole ∙ stands_behind text s.before s.behind

-- What selection means, for all modes together. Assumes nothing.
use mathlib.Core.Path.{◌≡◌, refl, sym, ap, ap₂, ◌∙◌}
use mathlib.Core.Logic.{◌↔◌, ◌⊎◌, inl, inr}
use mathlib.Core.Bool.{Bool, true, false, not, cond, ◌&&◌, ◌||◌, false≢true, or-true}
use mathlib.Core.List.{List, [], ◌∷◌, ◌++◌}
use Prim.Native.Nat.{ℕ, zero, suc, ◌^◌, ◌≤◌}
use native.Mathlib.Omega.{arith}
use lib.ListN.{length, take, drop, get_or}
use lib.Dec.{T, leb, eqb}
use borrow.Author.Tests.{leb-true, ltb-true, eqb-true, eq-eqb}
use Rattle.octets.specs.Octets.{are_bytes}
use Rattle.octets.proofs.Numbers.{both}
use Rattle.rules.specs.Account.{Account}
use Rattle.rules.specs.Command.{Header, Condition, Search, every, some?, is_code, is_form, is_condition, is_few, is_header, well_formed}
use Rattle.rules.specs.Machine.{Machine, has_book_place, checks, first_failure, answer, if_accepted, outcome}
use Rattle.rules.specs.Message.{same_bytes, decimal, digits, account_id, named}
use Rattle.rules.specs.Report.{report_of}
use Rattle.rules.specs.Search.{contains, meets, selects, those, selected, found_block, found_blocks, search_report}
use Rattle.rules.specs.Selection.{Stands, Asks, Some, Selected, each_once, search_call, SelectionMeans}
use Rattle.rules.proofs.Bools.{and_l, and_r, is_true}
use Rattle.rules.proofs.Checks.{passed, late}
use Rattle.rules.proofs.Digits.{length_digits, digits_digits, decimal_digits}
use Rattle.rules.proofs.Texts.{contains_same, same_bytes_lem, bytes_same, contains_stands, stands_contains}

-- ---- ids

pub length_id : (c : ℕ) → length (account_id c) ≡ 10
unfolding account_id
length_id c = omega (arith, length_digits 6 c)

id_names : (c : ℕ) → is_code c ≡ true → named (account_id c) ≡ c
unfolding named account_id is_code same_bytes
id_names c h =
    ap₂ (λ (n : ℕ) (t : Bool). cond (eqb n 10 && t) (decimal 0 (digits 6 c)) (10 ^ 6)) (length_id c) (digits_digits 6 c) ∙ decimal_digits 6 c (ltb-true c (10 ^ 6) h)

-- ---- a condition

pub record Formed (mode n : ℕ) : Type 0 where
  pub least : 1 ≤ mode
  pub most : mode ≤ 3
  pub short : n ≤ 10
  pub whole : mode ≡ 1 → n ≡ 10

pub formed : (mode n : ℕ) → is_form mode n ≡ true → Formed mode n
unfolding is_form
formed mode n h =
    let q = both (leb 1 mode && leb mode 3) _ h in
    let m = both (leb 1 mode) (leb mode 3) q.0 in
    let r = both (leb 1 n && leb n 10) _ q.1 in
    let k = both (leb 1 n) (leb n 10) r.0 in record {
      least = leb-true 1 mode m.0;
      most = leb-true mode 3 m.1;
      short = leb-true n 10 k.1;
      whole = λ e. eqb-true n 10 (rw (eq-eqb mode 1 e) at r.1);
    }

-- equal asks what contains does, and lacks the contrary
pub meets_turned : (id text : List ℕ) (mode : ℕ) → length id ≡ 10 → is_form mode (length text) ≡ true
    → meets id (record { mode = mode; text = text }) ≡ cond (eqb mode 3) (not (contains text id)) (contains text id)
unfolding meets
meets_turned id text mode l h = go mode refl (formed mode (length text) h)
  where
    go : (m : ℕ) → mode ≡ m → Formed m (length text)
        → cond (eqb m 1) (same_bytes text id) (cond (eqb m 2) (contains text id) (not (contains text id))) ≡ cond (eqb m 3) (not (contains text id)) (contains text id)
    go zero e f = absurd (omega (arith, f.least))
    go (suc zero) e f = sym (contains_same text id (omega (arith, f.whole refl)))
    go (suc (suc zero)) e f = refl
    go (suc (suc (suc zero))) e f = refl
    go (suc (suc (suc (suc m)))) e f = absurd (omega (arith, f.most))

-- ---- what a condition asks

lacking : (text id : List ℕ) → not (contains text id) ≡ true → ¬ (Stands text id)
lacking text id e s = false≢true (sym (ap not (stands_contains text id s)) ∙ e)

lacked : (text id : List ℕ) → ¬ (Stands text id) → not (contains text id) ≡ true
lacked text id n = go (contains text id) refl
  where
    go : (b : Bool) → contains text id ≡ b → not b ≡ true
    go true e = absurd (n (contains_stands text id e))
    go false e = refl

pub meets_means : (id : List ℕ) (c : Condition) → is_condition c ≡ true → (meets id c ≡ true) ↔ Asks c.mode c.text id
unfolding is_condition meets
meets_means id c h = go c.mode (formed c.mode (length c.text) (both (is_form c.mode (length c.text)) (are_bytes c.text) h).0)
  where
    go : (m : ℕ) → Formed m (length c.text)
        → (cond (eqb m 1) (same_bytes c.text id) (cond (eqb m 2) (contains c.text id) (not (contains c.text id))) ≡ true) ↔ Asks m c.text id
    go zero f = absurd (omega (arith, f.least))
    go (suc zero) f = (same_bytes_lem c.text id, bytes_same c.text id)
    go (suc (suc zero)) f = (contains_stands c.text id, stands_contains c.text id)
    go (suc (suc (suc zero))) f = (lacking c.text id, lacked c.text id)
    go (suc (suc (suc (suc m)))) f = absurd (omega (arith, f.most))

-- ---- some of a list

-- a test of each member that is true exactly where a property holds finds one exactly where some member has it
some_means : {A : Type 0} (p q : A → Bool) (P : A → Type 0) → ((a : A) → q a ≡ true → (p a ≡ true) ↔ P a) → (l : List A) → every q l ≡ true → (some? p l ≡ true) ↔ Some P l
unfolding every some?
some_means p q P f [] h = (λ e. false≢true e, λ e. absurd e)
some_means {A} p q P f (a ∷ l) h =
    let g = both (q a) (every q l) h in
    let here = f a g.0 in
    let rest = some_means p q P f l g.1 in
    (out (p a) refl here.0 rest.0, into here.1 rest.1)
  where
    out : (b : Bool) → p a ≡ b → (p a ≡ true → P a) → (some? p l ≡ true → Some P l) → (b || some? p l) ≡ true → P a ⊎ Some P l
    out true e here rest o = inl (here e)
    out false e here rest o = inr (rest o)

    into : (P a → p a ≡ true) → (Some P l → some? p l ≡ true) → P a ⊎ Some P l → (p a || some? p l) ≡ true
    into here rest (inl x) = rw (here x)
    into here rest (inr y) = rw (rest y) (or-true (p a))

account_means : (cs : List Condition) (x : Account) → every is_condition cs ≡ true → (selects cs x ≡ true) ↔ Selected cs x
unfolding selects
account_means cs x h = some_means (meets (account_id x.code)) is_condition (λ c. Asks c.mode c.text (account_id x.code)) (meets_means (account_id x.code)) cs h

-- ---- 21

every_true : {A : Type 0} (l : List A) → every (λ a. true) l ≡ true
unfolding every
every_true [] = refl
every_true (a ∷ l) = every_true l

-- the checks from 21 on
last_checks : (f p : Bool) → (first_failure ((21, f) ∷ (22, p) ∷ []) ≡ 21) ↔ (¬ (f ≡ true))
unfolding first_failure
last_checks true true = (λ e. absurd (omega (arith, e)), λ n. absurd (n refl))
last_checks true false = (λ e. absurd (omega (arith, e)), λ n. absurd (n refl))
last_checks false p = (λ e f. false≢true f, λ n. refl)

none : (m : Machine) (room : ℕ) (h : Header) (cs : List Condition) → first_failure (take 5 (checks m room (Search h cs))) ≡ 0
    → (answer m (search_call room h cs) ≡ 21) ↔ (¬ (Some (Selected cs) m.accounts))
unfolding answer checks well_formed
none m room h cs e =
    let w : T ((is_header h && is_few (length cs) && every is_condition cs) && leb 8192 room) = passed 1 (take 5 (checks m room (Search h cs))) tt e in
    let v : T (is_header h && is_few (length cs) && every is_condition cs) = and_l (is_header h && is_few (length cs) && every is_condition cs) (leb 8192 room) w in
    let c = is_true (every is_condition cs) (and_r (is_header h && is_few (length cs)) (every is_condition cs) v) in
    let s = some_means (selects cs) (λ x. true) (Selected cs) (λ x t. account_means cs x c) m.accounts (every_true m.accounts) in
    let l = last_checks (some? (selects cs) m.accounts) (has_book_place m) in
    let t = late 5 (checks m room (Search h cs)) tt e in
    (λ a f. l.0 (t ∙ a) (s.1 f), λ n. sym t ∙ l.1 (λ f. n (s.0 f)))

-- ---- the report

-- the blocks of those that a test picks out, as a walk over all
picked : (sender : ℕ) (xs : List Account) (cs : List Condition) (ys : List Account) → found_blocks sender xs (selected cs ys) ≡ each_once sender xs cs ys
unfolding found_blocks selected those each_once
picked sender xs cs [] = refl
picked sender xs cs (y ∷ ys) =
    elim (selects cs y) as (λ b. found_blocks sender xs (cond b (y ∷ those (selects cs) ys) (those (selects cs) ys)) ≡ cond b (found_block sender xs y) [] ++ each_once sender xs cs ys) [
      | true ↦ ap (λ (l : List ℕ). found_block sender xs y ++ l) (picked sender xs cs ys)
      | false ↦ picked sender xs cs ys
    ]

pub selection_means : SelectionMeans
unfolding outcome if_accepted report_of search_report
selection_means = record {
  names = id_names;
  means = account_means;
  none_selected = none;
  opens = λ m room h cs e. ap (λ (a : ℕ). get_or (if_accepted a (search_report h.sender m.accounts cs) []) 0 0) e;
  in_order = λ m room h cs e.
      ap (λ (a : ℕ). drop 1 (if_accepted a (search_report h.sender m.accounts cs) [])) e ∙ picked h.sender m.accounts cs m.accounts;
}

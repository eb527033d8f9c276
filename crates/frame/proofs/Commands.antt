-- A command and the values of its fields give each other back, a command is in range exactly when its values fit, and each kind has its byte and its
-- layout. Assumes nothing.
use mathlib.Core.Path.{◌≡◌, refl, sym, ap, ap₂, ◌∙◌}
use mathlib.Core.Bool.{Bool, true, false, cond, ◌&&◌, false≢true, and-true, and_assoc}
use mathlib.Core.List.{List, [], ◌∷◌, map}
use Prim.Native.Nat.{ℕ, ◌^◌}
use lib.ListN.{get_or, length-map}
use lib.Dec.{ltb, eqb}
use borrow.Author.Tests.{eqb-true, ne_eqb}
use Rattle.octets.specs.Octets.{is_bytes}
use Rattle.rules.specs.Command.{Item, Command, Bank, Branch, Funding, Withdrawal, BankLimits, Payment, Change, Deletion, Query, Opening, Search, Letters, Mark, every, is_code, is_method, is_letters, is_day, is_header, is_item, well_formed}
use Rattle.frame.specs.Field.{Field, Row, Values, plain_fits, row_fits, fits, may, are_fields, all_fit}
use Rattle.frame.specs.Frame.{Kind, K01, K02, K03, K04, K05, K06, K07, K08, K09, K0a, K0b, K0c, K13, kind_byte, item_row, id_row, fields_of, kinds, with_byte, kinds_at, layout_of, layout, is_frame, kind_of, item_values, id_values, values_of, item_of, id_of, command_of, command_in, commands_of}
use Rattle.frame.proofs.Fields.{narrow}

-- ---- lists

module _ {A B : Type 0} (f : A → B) where
  map_back : (g : B → A) → ((a : A) → g (f a) ≡ a) → (l : List A) → map g (map f l) ≡ l
  map_back g e [] = refl
  map_back g e (a ∷ l) = ap₂ ◌∷◌ (e a) (map_back g e l)

  every_map : (p : A → Bool) (q : B → Bool) → ((a : A) → p a ≡ q (f a)) → (l : List A) → every p l ≡ every q (map f l)
  unfolding every
  every_map p q e [] = refl
  every_map p q e (a ∷ l) = ap₂ ◌&&◌ (e a) (every_map p q e l)

-- ---- there and back

pub command_back : (c : Command) → command_of (kind_of c) (values_of c) ≡ c
unfolding kind_of values_of command_of item_values item_of id_values id_of
command_back (Bank c) = refl
command_back (Branch c o l p) = refl
command_back (Funding c a) = refl
command_back (Withdrawal c a) = refl
command_back (BankLimits c l p) = refl
command_back (Payment w s r a) = refl
command_back (Change h is) = ap (Change h) (map_back item_values item_of (λ i. refl) is)
command_back (Deletion h i t) = refl
command_back (Query h is) = ap (Query h) (map_back id_values id_of (λ i. refl) is)
command_back (Opening d) = refl
command_back (Search h cs) = refl
command_back (Letters c l) = refl
command_back (Mark c) = refl

-- a kind with the values of its fields
abbrev pub Filled : Type 0
Filled = (k : Kind) × Values (fields_of k)

pub values_back : (k : Kind) (v : Values (fields_of k)) → ◌≡◌ {A = Filled} (kind_of (command_of k v), values_of (command_of k v)) (k, v)
unfolding fields_of kind_of values_of command_of item_values item_of id_values id_of
values_back K01 v = refl
values_back K02 v = refl
values_back K03 v = refl
values_back K04 v = refl
values_back K05 v = refl
values_back K06 v = refl
values_back K07 v =
    ap {B = Filled} (λ (rs : List (Row item_row)). (K07, (v.0, (v.1.0, (v.1.1.0, (v.1.1.1.0, (rs, tt)))))))
    (map_back item_of item_values (λ r. refl) v.1.1.1.1.0)
values_back K08 v = refl
values_back K09 v =
    ap {B = Filled} (λ (rs : List (Row id_row)). (K09, (v.0, (v.1.0, (v.1.1.0, (v.1.1.1.0, (rs, tt)))))))
    (map_back id_of id_values (λ r. refl) v.1.1.1.1.0)
values_back K0a v = refl
values_back K0b v = refl
values_back K0c v = refl
values_back K13 v = refl

-- ---- in range

item_range : (i : Item) → is_item i ≡ row_fits item_row (item_values i)
unfolding is_item row_fits plain_fits item_values
item_range i = simp (and_assoc, and-true)

id_range : (i : List ℕ) → is_bytes 10 i ≡ row_fits id_row (id_values i)
unfolding row_fits plain_fits id_values
id_range i = sym (and-true (is_bytes 10 i))

pub in_range : (c : Command) → well_formed c ≡ all_fit (fields_of (kind_of c)) (values_of c)
unfolding fields_of kind_of values_of well_formed all_fit fits plain_fits row_fits is_method is_letters is_day is_header is_item item_values id_values
in_range (Bank c) = sym (and-true (is_code c))
in_range (Branch c o l p) = simp (and_assoc, and-true)
in_range (Funding c a) = simp and-true
in_range (Withdrawal c a) = simp and-true
in_range (BankLimits c l p) = simp (and_assoc, and-true)
in_range (Payment w s r a) = simp (and_assoc, and-true)
in_range (Change h is) = rw (length-map, ← every_map item_values is_item (row_fits item_row) item_range is) (simp (and_assoc, and-true))
in_range (Deletion h i t) = simp (and_assoc, and-true)
in_range (Query h is) = rw (length-map, ← every_map id_values (is_bytes 10) (row_fits id_row) id_range is) (simp (and_assoc, and-true))
in_range (Search h cs) = simp (and_assoc, and-true)
in_range (Opening d) = sym (and-true (ltb d (2 ^ 32)))
in_range (Letters c l) = simp and-true
in_range (Mark c) = sym (and-true (is_code c))

-- ---- kinds

-- a kind has a byte, which is no other kind's, and fields whose numbers fit a byte
pub record Known (k : Kind) : Type 0 where
  pub byte : ltb (kind_byte k) 256 ≡ true
  pub alone : kinds_at (kind_byte k) ≡ k ∷ []
  pub fields : every narrow (fields_of k) ≡ true

pub kind_known : (k : Kind) → Known k
unfolding kind_byte kinds_at every narrow fields_of
kind_known K01 = record { byte = refl; alone = refl; fields = refl }
kind_known K02 = record { byte = refl; alone = refl; fields = refl }
kind_known K03 = record { byte = refl; alone = refl; fields = refl }
kind_known K04 = record { byte = refl; alone = refl; fields = refl }
kind_known K05 = record { byte = refl; alone = refl; fields = refl }
kind_known K06 = record { byte = refl; alone = refl; fields = refl }
kind_known K07 = record { byte = refl; alone = refl; fields = refl }
kind_known K08 = record { byte = refl; alone = refl; fields = refl }
kind_known K09 = record { byte = refl; alone = refl; fields = refl }
kind_known K0a = record { byte = refl; alone = refl; fields = refl }
kind_known K0b = record { byte = refl; alone = refl; fields = refl }
kind_known K0c = record { byte = refl; alone = refl; fields = refl }
kind_known K13 = record { byte = refl; alone = refl; fields = refl }

pub kind_layout : (k : Kind) → layout (kind_byte k) ≡ fields_of k
unfolding layout layout_of
kind_layout k = ap layout_of (kind_known k).alone

kind_among : (ks : List Kind) (n : ℕ) (b : List ℕ) (i : ℕ) → are_fields (layout_of (with_byte n ks)) b i ≡ true → (k : Kind) × (n ≡ kind_byte k)
unfolding with_byte layout_of are_fields may
kind_among [] n b i h = absurd (false≢true h)
kind_among (k ∷ ks) n b i h = go (eqb (kind_byte k) n) refl (kind_among ks n b i) h
  where
    go : (t : Bool) → eqb (kind_byte k) n ≡ t → (are_fields (layout_of (with_byte n ks)) b i ≡ true → (j : Kind) × (n ≡ kind_byte j))
        → are_fields (layout_of (cond t (k ∷ with_byte n ks) (with_byte n ks))) b i ≡ true → (j : Kind) × (n ≡ kind_byte j)
    go true e f g = (k, sym (eqb-true (kind_byte k) n e))
    go false e f g = f g

-- a byte whose layout some bytes have is a kind's
pub kind_of_byte : (n : ℕ) (b : List ℕ) (i : ℕ) → are_fields (layout n) b i ≡ true → (k : Kind) × (n ≡ kind_byte k)
unfolding layout
kind_of_byte n b i h = kind_among kinds n b i h

-- a byte that is no kind's
pub kind_none : (b : List ℕ) → kinds_at (get_or b 0 0) ≡ [] → is_frame b ≡ false
unfolding is_frame layout are_fields may
kind_none b e = ap (λ (ks : List Kind). are_fields (layout_of ks) b 1) e

-- that a byte is none of some kinds', as the last arm of a `match` has it whose other arms are these kinds
unfoldable pub Rest : Type 0 → List Kind → ℕ → Type 0
Rest A [] n = A
Rest A (k ∷ ks) n = Rest (A × (n ≡ kind_byte k → ⊥)) ks n

pub rest_none : (A : Type 0) (ks : List Kind) (n : ℕ) → Rest A ks n → A × (with_byte n ks ≡ [])
unfolding Rest with_byte
rest_none A [] n r = (r, refl)
rest_none A (k ∷ ks) n r =
    let p = rest_none (A × (n ≡ kind_byte k → ⊥)) ks n r in
    (p.0.0, rw (ne_eqb (kind_byte k) n (λ e. p.0.1 (sym e))) p.1)

-- the same, one after the other
unfoldable pub Unless : List Kind → ℕ → Type 0 → Type 0
Unless [] n A = A
Unless (k ∷ ks) n A = (n ≡ kind_byte k → ⊥) → Unless ks n A

pub unless_none : (ks : List Kind) (n : ℕ) (A : Type 0) → (with_byte n ks ≡ [] → A) → Unless ks n A
unfolding Unless with_byte
unless_none [] n A f = f refl
unless_none (k ∷ ks) n A f = λ h. unless_none ks n A (λ e. f (rw (ne_eqb (kind_byte k) n (λ g. h (sym g))) e))

-- ---- a frame of a known kind

module _ (k : Kind) (b : List ℕ) (h : is_frame b ≡ true) (e : get_or b 0 0 ≡ kind_byte k) where
  pub kind_fields : are_fields (fields_of k) b 1 ≡ true
  unfolding is_frame
  kind_fields = ap (λ (fs : List Field). are_fields fs b 1) (sym (kind_layout k) ∙ ap layout (sym e)) ∙ h

  pub kind_command : commands_of b ≡ command_in b k ∷ []
  unfolding commands_of
  kind_command = rw h (ap (map (command_in b)) (ap kinds_at e ∙ (kind_known k).alone))

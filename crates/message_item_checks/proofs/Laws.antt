-- The items' checks are those of a change, and of a deletion, which has no value. Assumes nothing.
use mathlib.Core.Path.{◌≡◌, refl, sym, ap, ◌∙◌}
use mathlib.Core.Bool.{Bool, ◌&&◌}
use mathlib.Core.List.{List, [], ◌∷◌, ◌++◌, map}
use Prim.Native.Nat.{ℕ}
use lib.ListN.{drop}
use Rattle.std.specs.Prelude.{None}
use Rattle.std.specs.List.{list_all}
use Rattle.rules.specs.Command.{Item, Change, Deletion, every}
use Rattle.rules.specs.Machine.{Machine, has_book_place, checks, first_failure}
use Rattle.rules.specs.Message.{named, is_later, limit_checks}
use Rattle.command.specs.declared.Header.{Header}
use Rattle.command.specs.View.{to_header}
use Rattle.message_items.specs.Records.{record_of}
use Rattle.message_item_checks.specs.Items.{item_checks}

all_mapped : {X Y : Type 0} (p : Y → Bool) (f : X → Y) (l : List X) → list_all p (map f l) ≡ every (λ x. p (f x)) l
unfolding every
all_mapped p f [] = refl
all_mapped p f (x ∷ l) = ap (λ b. p (f x) && b) (all_mapped p f l)

every_mapped : {X Y : Type 0} (p : Y → Bool) (f : X → Y) (l : List X) → every p (map f l) ≡ every (λ x. p (f x)) l
unfolding every
every_mapped p f [] = refl
every_mapped p f (x ∷ l) = ap (λ b. p (f x) && b) (every_mapped p f l)

same_checks : {a b c d e f g h : Bool} (r : List (ℕ × Bool)) → a ≡ e → b ≡ f → c ≡ g → d ≡ h → (18, a) ∷ (19, b) ∷ (20, c) ∷ (6, d) ∷ r ≡ (18, e) ∷ (19, f) ∷ (20, g) ∷ (6, h) ∷ r
same_checks r p q s t = rw (p, q, s, t)

module _ (m : Machine) (h : Header) where
  pub change_items : (is : List Item) → item_checks h m.accounts (map record_of is) ++ ((22, has_book_place m) ∷ []) ≡ drop 6 (checks m 0 (Change (to_header h) is))
  unfolding checks limit_checks is_later to_header
  change_items is =
      same_checks _
      (all_mapped _ record_of is ∙ sym (every_mapped _ (λ i. (i.account, i.type)) is))
      (all_mapped _ record_of is ∙ sym (every_mapped _ (λ i. (i.account, i.type)) is))
      (all_mapped _ record_of is ∙ sym (every_mapped _ (λ i. (i.account, i.type)) is))
      (all_mapped _ record_of is)

  pub deletion_item : (i : List ℕ) (kind : ℕ)
      → first_failure (item_checks h m.accounts (record { code = named i; kind = kind; value = None } ∷ []) ++ ((22, has_book_place m) ∷ [])) ≡ first_failure (drop 6 (checks m 0 (Deletion (to_header h) i kind)))
  unfolding checks limit_checks is_later to_header first_failure every
  deletion_item i kind = refl

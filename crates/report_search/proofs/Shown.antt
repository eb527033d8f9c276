-- Laws of what is said of one account: its length, and who may ask for the account at a place. Assumes nothing.
use mathlib.Core.Path.{◌≡◌, sym, ap, ◌∙◌}
use mathlib.Core.Bool.{Bool, true, false, cond, ◌||◌}
use mathlib.Core.List.{List, [], ◌∷◌}
use Prim.Native.Nat.{ℕ, ◌+◌, ◌*◌, ◌≤◌, ◌<◌}
use native.Mathlib.Omega.{arith}
use lib.Dec.{eqb}
use lib.ListN.{length, get_or, length-append}
use Rattle.octets.proofs.Numbers.{length_money}
use Rattle.rules.specs.Account as Rule
use Rattle.rules.specs.Account.{Turnovers, at, blank}
use Rattle.rules.specs.Message.{owned_by, may_ask}
use Rattle.rules.specs.Invariant.{Sized}
use Rattle.rules.specs.Letters.{letter_bytes}
use Rattle.rules.specs.Search.{turnover_bytes, shown_bytes, found_block, found_blocks}
use Rattle.rules.proofs.Selection.{length_id}
use Rattle.rules.proofs.Unique.{found}
use Rattle.account.specs.declared.Account.{Account}
use Rattle.account.specs.View.{to_account}
use Rattle.table.specs.declared.Table.{Table}
use Rattle.table.specs.View.{accounts_of, machine_of}
use Rattle.table.specs.Promise.{Good}
use Rattle.table.proofs.Called.{all_place, every_sized, place_has}
use Rattle.table.proofs.Places.{accounts_length, accounts_at}
use Rattle.report_letters.proofs.Laws.{letters_most}

-- ---- lengths

length_turnovers : (t : Turnovers) → length (turnover_bytes t) ≡ 32
unfolding turnover_bytes
length_turnovers t = simp (length-append, length_money)

length_shown : (x : Rule.Account) → length (shown_bytes x) ≡ 51 + length (letter_bytes x.letters)
unfolding shown_bytes
length_shown x = simp (length-append, length_id, length_money, length_turnovers) (omega arith)

block_most : (s : ℕ) (xs : List Rule.Account) (y : Rule.Account) → length (found_block s xs y) ≤ 57
unfolding found_block
block_most s xs y =
    elim (may_ask s y.code xs) as (λ b. length (cond b (shown_bytes y) (24 ∷ [])) ≤ 57) [
      | true ↦ omega (arith, length_shown y, letters_most y.letters)
      | false ↦ omega arith
    ]

pub blocks_most : (s : ℕ) (xs ys : List Rule.Account) → length (found_blocks s xs ys) ≤ length ys * 57
unfolding found_blocks
blocks_most s xs [] = omega arith
blocks_most s xs (y ∷ ys) = omega (arith, length-append (found_block s xs y) (found_blocks s xs ys), block_most s xs y, blocks_most s xs ys)

-- ---- the account at a place of a good table

module _ (t : Table) (g : Good t) (long : length t.accounts ≡ 64) (i : ℕ) (d : Account) (h : i < t.count) where
  pub place_sized : Sized (to_account (get_or t.accounts i d))
  place_sized = place_has t g long Sized (every_sized t g) i d h

  own : at (get_or (accounts_of t) i blank).code (accounts_of t) ≡ get_or (accounts_of t) i blank
  unfolding machine_of
  own =
      all_place (λ x. at x.code (accounts_of t) ≡ x) (accounts_of t) i blank (omega (arith, accounts_length t g.own.within long))
      (found (accounts_of t) g.inv.table.distinct)

  pub place_block : (sender : ℕ) (may : Bool) → may ≡ (eqb sender (to_account (get_or t.accounts i d)).code || owned_by sender (to_account (get_or t.accounts i d)).owner)
      → cond may (shown_bytes (to_account (get_or t.accounts i d))) (24 ∷ [])
      ≡ found_block sender (accounts_of t) (get_or (accounts_of t) i blank)
  unfolding found_block may_ask
  place_block sender may m =
      let e = accounts_at t g.own.within long i d blank h in
      ap (λ (b : Bool). cond b (shown_bytes (to_account (get_or t.accounts i d))) (24 ∷ [])) m
      ∙ ap (λ (x : Rule.Account). cond (eqb sender x.code || owned_by sender x.owner) (shown_bytes x) (24 ∷ [])) (sym e)
      ∙ ap (λ (y : Rule.Account). cond (eqb sender (get_or (accounts_of t) i blank).code || owned_by sender y.owner) (shown_bytes (get_or (accounts_of t) i blank)) (24 ∷ [])) (sym own)

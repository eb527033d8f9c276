-- The blocks of a report: how long they are, one after the other, and the block of the account at a place. Assumes nothing.
use mathlib.Core.Path.{◌≡◌, refl, sym, ap, ◌∙◌, subst}
use mathlib.Core.Bool.{true, false, cond, ◌||◌}
use mathlib.Core.List.{List, [], ◌∷◌, ◌++◌, append_assoc, append-nil}
use Prim.Native.Nat.{ℕ, ◌+◌, ◌*◌, ◌≤◌, ◌<◌}
use native.Mathlib.Omega.{arith}
use lib.Dec.{T, eqb}
use lib.ListN.{length, get_or, take, length-append, length-take}
use Rattle.std.proofs.lemmas.List.{take_more}
use Rattle.octets.specs.Octets.{write}
use Rattle.rules.specs.Account as Rule
use Rattle.rules.specs.Account.{known, at}
use Rattle.rules.specs.Invariant.{All, Sized, Fit}
use Rattle.rules.specs.Message.{named, may_ask, owned_by}
use Rattle.rules.specs.Report.{account_block, block, blocks}
use Rattle.account.specs.declared.Account.{Account}
use Rattle.account.specs.View.{to_account}
use Rattle.report_account.proofs.Laws.{length_account}
use Rattle.table.specs.declared.Table.{Table}
use Rattle.table.specs.View.{accounts_of, machine_of}
use Rattle.table.specs.Promise.{Good, FoundAt}
use Rattle.table.proofs.Called.{every_sized}
use Rattle.rules.proofs.Lists.{all_at, at_code}
use Rattle.octet_writer.specs.Written.{Written}
use Rattle.octet_writer.proofs.Laws.{written_same, written_then}
use Rattle.report_blocks.specs.Reportable.{Reportable}

-- ---- lengths

block_most : (s : ℕ) (xs : List Rule.Account) (c : ℕ) → length (block s xs c) ≤ 57
unfolding block
block_most s xs c =
    elim (known c xs) as (λ b. length (cond b (cond (may_ask s c xs) (account_block (at c xs)) (24 ∷ [])) (23 ∷ [])) ≤ 57) [
      | true ↦ elim (may_ask s c xs) as (λ b. length (cond b (account_block (at c xs)) (24 ∷ [])) ≤ 57) [ true ↦ omega (arith, length_account (at c xs)) | false ↦ omega arith ]
      | false ↦ omega arith
    ]

blocks_most : (s : ℕ) (xs : List Rule.Account) (is : List (List ℕ)) → length (blocks s xs is) ≤ length is * 57
unfolding blocks
blocks_most s xs [] = omega arith
blocks_most s xs (i ∷ is) =
    omega (arith, length-append (block s xs (named i)) (blocks s xs is), block_most s xs (named i), blocks_most s xs is)

-- the count, and 57 bytes a block at the most
pub report_most : (s : ℕ) (xs : List Rule.Account) (ids : List (List ℕ)) → length ((length ids ∷ []) ++ blocks s xs ids) ≤ 1 + length ids * 57
report_most s xs ids = omega (arith, blocks_most s xs ids)

-- ---- one after the other

blocks_behind : (s : ℕ) (xs : List Rule.Account) (is : List (List ℕ)) (i : List ℕ) → blocks s xs (is ++ (i ∷ [])) ≡ blocks s xs is ++ block s xs (named i)
unfolding blocks
blocks_behind s xs [] i = append-nil (block s xs (named i))
blocks_behind s xs (j ∷ is) i =
    ap (λ (l : List ℕ). block s xs (named j) ++ l) (blocks_behind s xs is i) ∙ sym (append_assoc (block s xs (named j)) (blocks s xs is) (block s xs (named i)))

module _ (l : List ℕ) (p s : ℕ) (xs : List Rule.Account) (ids : List (List ℕ)) where
  pub report_none : Written l p (blocks s xs (take 0 ids)) l p
  unfolding blocks write
  report_none = record { bytes = refl; behind = omega arith }

  -- the blocks of the first k ids are written as far as the place at
  module _ (k : ℕ) (out : List ℕ) (at : ℕ) (w : Written l p (blocks s xs (take k ids)) out at) where
    pub report_room_lem : at ≤ p + k * 57
    report_room_lem = omega (arith, w.behind, blocks_most s xs (take k ids), length-take k ids)

    pub report_more : (out' : List ℕ) (j : ℕ) (d : List ℕ) → k < length ids → Written out at (block s xs (named (get_or ids k d))) out' j → Written l p (blocks s xs (take (k + 1) ids)) out' j
    report_more out' j d h q = written_same (sym (ap (blocks s xs) (take_more ids k d h) ∙ blocks_behind s xs (take k ids) (get_or ids k d))) (written_then w q)

-- ---- the account of a code

reportable : (t : Table) → Good t → All Reportable (accounts_of t)
unfolding machine_of
reportable t g = go (accounts_of t) (every_sized t g) g.inv.fit
  where
    go : (xs : List Rule.Account) → All Sized xs → All (Fit t.day) xs → All Reportable xs
    go [] a f = tt
    go (x ∷ xs) a f = (record { sized = a.0; ltk_ok = f.0.limited.ltk_ok; lpo_ok = f.0.limited.lpo_ok }, go xs a.1 f.1)

pub reportable_at : (t : Table) (c i : ℕ) (d : Account) → Good t → FoundAt t c i → Reportable (to_account (get_or t.accounts i d))
reportable_at t c i d g f =
    subst Reportable (sym (f.account d)) (all_at c Reportable (accounts_of t) (subst T (sym f.is_known) tt) (reportable t g))

-- who may ask for the account of a code
pub asked_at : (t : Table) (c i : ℕ) (d : Account) → FoundAt t c i → (s : ℕ)
    → (eqb s (to_account (get_or t.accounts i d)).code || owned_by s (to_account (get_or t.accounts i d)).owner) ≡ may_ask s c (accounts_of t)
unfolding may_ask
asked_at t c i d f s =
    ap (λ (x : Rule.Account). eqb s x.code || owned_by s x.owner) (f.account d)
    ∙ ap (λ (k : ℕ). eqb s k || owned_by s (at c (accounts_of t)).owner) (at_code c (accounts_of t) (subst T (sym f.is_known) tt))

-- Every account's new day, one after the other, kind 0a. Assumes nothing.
use mathlib.Core.Path.{◌≡◌, refl, sym, ap, ap₂, ◌∙◌}
use mathlib.Core.Bool.{cond}
use mathlib.Core.List.{List, [], ◌∷◌, ◌++◌, map}
use Prim.Native.Nat.{ℕ, zero, suc, ◌+◌, ◌≤◌, ◌<◌, ◌^◌}
use native.Mathlib.Omega.{arith}
use native.Mathlib.Numerals.{add-one}
use borrow.Author.Tests.{lt-ltb}
use lib.Dec.{ltb}
use lib.ListN.{length, take, drop, get_or, set, length-map, length-append, length-drop}
use lib.Seq.{take-append_seam, drop-append_seam}
use Rattle.rules.specs.Account as Rule
use Rattle.rules.specs.Account.{codes, blank}
use Rattle.rules.specs.Command.{Opening, is_day, well_formed}
use Rattle.rules.specs.Day.{new_day}
use Rattle.rules.specs.Invariant.{All, Sized, Fit}
use Rattle.rules.specs.Machine.{checks, effect, first_failure, answer, with_accounts}
use Rattle.rules.specs.Message.{keep_from}
use Rattle.rules.proofs.Ledger.{tame_new_day}
use Rattle.rules.proofs.Lists.{codes_map}
use Rattle.account.specs.declared.Account.{Account}
use Rattle.account.specs.View.{to_account}
use Rattle.table.specs.declared.Table.{Table}
use Rattle.table.specs.View.{accounts_of, machine_of}
use Rattle.table.specs.Promise.{Good, call, Called}
use Rattle.table.proofs.Called.{every_sized, accepted}
use Rattle.table.proofs.Places.{accounts_length, map_get_or, map_set}
use Rattle.table_day.specs.Ready.{Ready}

-- the first i of a list mapped, the others as they were
abbrev pub mapped : {X : Type 0} → (X → X) → ℕ → List X → List X
mapped f i xs = map f (take i xs) ++ drop i xs

module _ {X : Type 0} (f : X → X) where
  pub mapped_next : (i : ℕ) (xs : List X) (d : X) → i < length xs → get_or (mapped f i xs) i d ≡ get_or xs i d
  mapped_next i [] d h = absurd (omega arith)
  mapped_next zero (x ∷ xs) d h = refl
  mapped_next (suc i) (x ∷ xs) d h = mapped_next i xs d (omega arith)

  pub mapped_one : (i : ℕ) (xs : List X) (d : X) → i < length xs → set (mapped f i xs) i (f (get_or xs i d)) ≡ mapped f (suc i) xs
  mapped_one i [] d h = absurd (omega arith)
  mapped_one zero (x ∷ xs) d h = refl
  mapped_one (suc i) (x ∷ xs) d h = ap (λ l. f x ∷ l) (mapped_one i xs d (omega arith))

  pub mapped_length : (i : ℕ) (xs : List X) → length (mapped f i xs) ≡ length xs
  mapped_length zero xs = refl
  mapped_length (suc i) [] = refl
  mapped_length (suc i) (x ∷ xs) = ap suc (mapped_length i xs)

  pub mapped_all : (i : ℕ) (xs : List X) → length xs ≤ i → mapped f i xs ≡ map f xs
  mapped_all zero [] h = refl
  mapped_all (suc i) [] h = refl
  mapped_all zero (x ∷ xs) h = absurd (omega arith)
  mapped_all (suc i) (x ∷ xs) h = ap (λ l. f x ∷ l) (mapped_all i xs (omega arith))

-- the next of the accounts items, of which the first i have had their new day, before that the rules' accounts xs
module _ (xs : List Rule.Account) (items : List Account) (i : ℕ) (e : map to_account items ≡ mapped new_day i xs) (h : i < length items) where
  pub below : i < length xs
  below = let n = rw length-map at (ap length e ∙ mapped_length new_day i xs) in omega arith

  pub old_one : (d : Account) → to_account (get_or items i d) ≡ get_or xs i blank
  old_one d = sym (map_get_or to_account items i d blank h) ∙ ap (λ l. get_or l i blank) e ∙ mapped_next new_day i xs blank below

  pub new_one : (y d : Account) → to_account y ≡ new_day (to_account (get_or items i d)) → map to_account (set items i y) ≡ mapped new_day (i + 1) xs
  new_one y d f =
      map_set to_account items i y
      ∙ ap₂ (λ l x. set l i x) e (f ∙ ap new_day (old_one d))
      ∙ mapped_one new_day i xs blank below
      ∙ ap (λ n. mapped new_day n xs) (sym (add-one i))

pub all_mapped : (xs : List Rule.Account) (items : List Account) (i : ℕ) → map to_account items ≡ mapped new_day i xs → length items ≤ i → map to_account items ≡ map new_day xs
all_mapped xs items i e h = let n = rw length-map at (ap length e ∙ mapped_length new_day i xs) in e ∙ mapped_all new_day i xs (omega arith)

pub ready : (t : Table) → Good t → All Ready (accounts_of t)
unfolding machine_of
ready t g = go (accounts_of t) (every_sized t g) g.inv.fit
  where
    go : (xs : List Rule.Account) → All Sized xs → All (Fit t.day) xs → All Ready xs
    go [] s f = tt
    go (x ∷ xs) s f = ((s.0, f.0.limited.ltk_ok, f.0.limited.lpo_ok), go xs s.1 f.1)

-- ---- and the day

-- any day that a u32 holds is well-formed
pub day_answer : (t : Table) (d : ℕ) → d < 2 ^ 32 → answer (machine_of t) (call (Opening d)) ≡ cond (ltb t.day d) 0 13
unfolding answer call checks well_formed is_day first_failure machine_of
day_answer t d h = ap (λ b. cond b (cond (ltb t.day d) 0 13) 1) (lt-ltb d (2 ^ 32) h)

as_many : (t : Table) → Good t → length t.accounts ≡ 64 → (items : List Account) → map to_account items ≡ map new_day (accounts_of t) → length items ≡ t.count
as_many t g long items e = (rw (length-map, length-map) at (ap {B = ℕ} length e)) ∙ accounts_length t g.own.within long

pub still_long : (t : Table) → Good t → length t.accounts ≡ 64 → (items : List Account) → map to_account items ≡ map new_day (accounts_of t) → length (items ++ drop t.count t.accounts) ≡ 64
still_long t g long items e = omega (arith, length-append items (drop t.count t.accounts), length-drop t.count t.accounts, as_many t g long items e, long, g.own.within)

-- all accounts have had their new day, and the day is another
pub opened_called : (t : Table) → Good t → length t.accounts ≡ 64 → (items : List Account) → map to_account items ≡ map new_day (accounts_of t) → (d : ℕ) → answer (machine_of t) (call (Opening d)) ≡ 0
    → Called (Opening d) t (record { answer = 0; table = record { codes = t.codes; accounts = items ++ drop t.count t.accounts; count = t.count; day = d } })
unfolding machine_of accounts_of with_accounts effect keep_from
opened_called t g long items e d z =
    let rest = drop t.count t.accounts in
    let n : length items ≡ t.count = as_many t g long items e in
    let accounts : map to_account (take t.count (items ++ rest)) ≡ map new_day (accounts_of t) =
    ap (λ n. map to_account (take n (items ++ rest))) (sym n) ∙ ap (map to_account) (take-append_seam items rest) ∙ e in
    accepted (Opening d) t (record { codes = t.codes; accounts = items ++ rest; count = t.count; day = d }) z
    (record { within = g.own.within; same = g.own.same ∙ sym (codes_map new_day tame_new_day.code_kept (accounts_of t)) ∙ ap codes (sym accounts) })
    (record { codes_stay = refl; accounts_stay = ap (λ n. drop n (items ++ rest)) (sym n) ∙ drop-append_seam items rest })
    (ap (λ (xs : List Rule.Account). record { day = d; accounts = xs; ids = [] }) accounts)

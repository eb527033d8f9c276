-- Who is no bank, and what an account of the program's passes. Assumes nothing.
use Rattle.std.proofs.Common.{◌≡◌, refl, ap, ℕ, Bool, true, false, List, [], ◌∷◌, map, cond, ◌||◌, true≢false}
use Rattle.std.specs.List.{list_any}
use lib.Dec.{eqb}
use Rattle.rules.specs.Account.{Account, is_bank, is_none, opened, blank, codes, among, known, at}
use Rattle.rules.specs.Command.{some?}
use Rattle.account.specs.declared.Account as Program
use Rattle.account.specs.View.{to_account}

-- what is not known is no bank
pub no_bank : (c : ℕ) (xs : List Account) → known c xs ≡ false → is_bank (at c xs) ≡ false
unfolding codes among known at blank opened is_bank is_none
no_bank c [] e = refl
no_bank c (x ∷ xs) e =
    (elim (eqb x.code c) as (λ b. (b || known c xs) ≡ false → is_bank (cond b x (at c xs)) ≡ false) [ true ↦ λ e. absurd (true≢false e) | false ↦ no_bank c xs ]) e

pub some_viewed : (f : Account → Bool) (l : List Program.Account) → list_any (λ x. f (to_account x)) l ≡ some? f (map to_account l)
unfolding some?
some_viewed f [] = refl
some_viewed f (x ∷ l) = ap (λ b. f (to_account x) || b) (some_viewed f l)

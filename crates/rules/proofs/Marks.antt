-- At most one bank is marked: what each change of the list does to the number of marks. Assumes nothing.
use mathlib.Core.Path.{◌≡◌, refl, ap, ◌∙◌}
use mathlib.Core.Bool.{Bool, true, false, not, cond, ◌||◌}
use mathlib.Core.List.{List, [], ◌∷◌, ◌++◌, map}
use mathlib.Core.Option.{Option, none, some}
use Prim.Native.Nat.{ℕ, ◌+◌, ◌≤◌}
use native.Mathlib.Omega.{arith}
use lib.IntN.{ℤ}
use lib.Dec.{T, eqb}
use Rattle.rules.specs.Account.{Limit, Turnover, Account, with_start, with_turnovers, with_limits, with_moment, with_mark, adjust, sum_over}
use Rattle.rules.specs.Command.{Header, some?}
use Rattle.rules.specs.Day.{morning_limits, new_day_of, new_day}
use Rattle.rules.specs.Letters.{mark}
use Rattle.rules.specs.Message.{with_limit, touch}
use Rattle.rules.specs.Payment.{out_turnover, in_turnover, raised, book_party, pay}
use Rattle.rules.proofs.Ledger.{book_ind}
use Rattle.rules.proofs.Lists.{sum_same, sum_map, sum_join}

marks_adjust : (c : ℕ) (f : Account → Account) → ((x : Account) → (f x).marked ≡ x.marked) → (xs : List Account) → sum_over mark (adjust c f xs) ≡ sum_over mark xs
unfolding mark
marks_adjust c f same xs = sum_same c f mark (λ x. ap (λ b. cond b 1 0) (same x)) xs

pub marks_kept : (c : ℕ) (f : Account → Account) → ((x : Account) → (f x).marked ≡ x.marked) → (xs : List Account) → sum_over mark xs ≤ 1 → sum_over mark (adjust c f xs) ≤ 1
marks_kept c f same xs h = omega (arith, marks_adjust c f same xs)

pub touch_marked : (h : Header) (t : ℕ) (g : Limit → Limit) (x : Account) → (touch h t g x).marked ≡ x.marked
unfolding touch with_limit with_moment with_limits
touch_marked h t g x =
    elim (eqb t 1) as (λ b. (with_moment h.moment (cond b (with_limits (g x.ltk) x.lpo x) (with_limits x.ltk (g x.lpo) x))).marked ≡ x.marked) [ true ↦ refl | false ↦ refl ]

marks_book : (k : Turnover) (n c : ℕ) (xs : List Account) → sum_over mark (book_party k n c xs) ≡ sum_over mark xs
unfolding raised with_turnovers
marks_book k n c xs = book_ind (λ ys. sum_over mark ys ≡ sum_over mark xs) k n c (λ d ys e. marks_adjust d (raised k n) (λ x. refl) ys ∙ e) xs refl

pub marks_pay : (credit : Bool) (n p q : ℕ) (xs : List Account) → sum_over mark (pay credit n p q xs) ≡ sum_over mark xs
unfolding pay
marks_pay credit n p q xs = marks_book (in_turnover credit) n q (book_party (out_turnover credit) n p xs) ∙ marks_book (out_turnover credit) n p xs

new_day_marked : (o : Option ℕ) (x : Account) → (new_day_of o x).marked ≡ x.marked
unfolding new_day_of morning_limits with_turnovers with_start with_limits
new_day_marked none x = refl
new_day_marked (some b) x = refl

pub marks_new_day : (xs : List Account) → sum_over mark (map new_day xs) ≡ sum_over mark xs
unfolding mark new_day
marks_new_day xs = sum_map new_day mark mark (λ x. ap (λ b. cond b 1 0) (new_day_marked x.owner x)) xs

pub marks_join : (y : Account) → y.marked ≡ false → (xs : List Account) → sum_over mark (xs ++ (y ∷ [])) ≡ sum_over mark xs
unfolding mark
marks_join y e xs = omega (arith, sum_join y mark xs, ap {B = ℕ} (λ b. cond b 1 0) e)

pub start_marked : (g : Account → ℤ) (x : Account) → (with_start (g x) x).marked ≡ x.marked
unfolding with_start
start_marked g x = refl

-- ---- the mark is set where there is none

unmarked : (xs : List Account) → T (not (some? (λ x. x.marked) xs)) → sum_over mark xs ≡ 0
unfolding some? sum_over mark
unmarked [] t = refl
unmarked (x ∷ xs) t =
    (elim x.marked as (λ b. T (not (b || some? (λ x. x.marked) xs)) → cond b 1 0 + sum_over mark xs ≡ 0)
    [ true ↦ λ t. absurd t | false ↦ λ t. omega (arith, unmarked xs t) ]) t

one_more : (c : ℕ) (xs : List Account) → sum_over mark (adjust c with_mark xs) ≤ sum_over mark xs + 1
unfolding adjust sum_over mark with_mark
one_more c [] = omega arith
one_more c (x ∷ xs) =
    elim (eqb x.code c) as (λ b. sum_over mark (cond b (with_mark x ∷ xs) (x ∷ adjust c with_mark xs)) ≤ (mark x + sum_over mark xs) + 1)
    [ true ↦ omega arith | false ↦ omega (arith, one_more c xs) ]

pub marks_set : (c : ℕ) (xs : List Account) → T (not (some? (λ x. x.marked) xs)) → sum_over mark (adjust c with_mark xs) ≤ 1
marks_set c xs t = omega (arith, one_more c xs, unmarked xs t)

-- Each kind of call keeps what it must; so any list of calls does. Assumes nothing.
use mathlib.Core.Path.{◌≡◌, refl, sym, ap, ap₂, ◌∙◌, subst}
use mathlib.Core.Bool.{Bool, true, false, not, cond, ◌&&◌, ◌||◌}
use mathlib.Core.List.{List, [], ◌∷◌}
use mathlib.Core.Option.{none, some}
use Prim.Native.Nat.{ℕ, ◌+◌, ◌^◌, ◌<◌}
use native.Mathlib.Omega.{arith}
use lib.ListN.{length}
use lib.IntN.{ℤ, pos, neg_ℤ, nat_abs, ◌+ℤ◌, +ℤ_assoc, +ℤ_idl}
use lib.Dec.{T, leb, ltb, leb→le, ltb→lt}
use lib.Signed.{non_neg, ◌≤ℤ◌}
use Rattle.amount.specs.Amount.{difference, day_balance, is_limit}
use Rattle.amount.proofs.Integer.{difference_add, difference_self, difference_up, difference_down, ≤ℤ_out, non_neg_in, non_neg_up}
use Rattle.octets.specs.Octets.{is_bytes}
use Rattle.rules.specs.Account.{Value, Turnovers, Account, balance, state, held, is_none, is_bank, no_turnovers, with_limits, with_letters, with_mark, opened, codes, blank, at, adjust, total, sum_over}
use Rattle.rules.specs.Command.{Header, Command, Bank, Branch, Funding, Withdrawal, BankLimits, Payment, Change, Deletion, Query, Opening, Search, Letters, Mark, Call, every, some?, is_code, is_method, is_letters, is_day, is_count, is_header, is_item, well_formed}
use Rattle.rules.specs.Demand.{brought_forward}
use Rattle.rules.specs.History.{Event, Funds, Withdraws, Pays, Opens, Nothing, event, events, funds, withdraws, sum_of, paid, count, gets, gives, brought, taken, is_opening, day_opened}
use Rattle.rules.specs.Invariant.{All, Limited, Fit, Invariant}
use Rattle.rules.specs.Machine.{Machine, empty, with_accounts, with_id, has_book_place, checks, effect, first_failure, answer, if_accepted, next, outcome, run, outcomes}
use Rattle.rules.specs.Message.{named, is_message_id, in_book, is_branch_of, limit_checks, touch, cleared, set_items}
use Rattle.rules.specs.Payment.{is_credit, payer, payee, payment_checks}
use Rattle.rules.proofs.Bools.{and_l, and_r}
use Rattle.rules.proofs.Bound.{less_bounded}
use Rattle.rules.proofs.Branches.{Metered}
use Rattle.rules.proofs.Checks.{passed, by_answer}
use Rattle.rules.proofs.Entries.{book_joined}
use Rattle.rules.proofs.Keep.{Kept, Still, still_refl, still_adjust, still_items, none_moved, kept_still, kept_join, kept_start, kept_pay, kept_new_day}
use Rattle.rules.proofs.Ledger.{inflow, outflow, balance_is, payer_known, payee_known, quiet_limits, quiet_letters, quiet_mark, quiet_touch, held_opened}
use Rattle.rules.proofs.Lists.{all_imp, all_at, all_adjust}
use Rattle.rules.proofs.Marks.{marks_kept, touch_marked, marks_set}
use Rattle.rules.proofs.Sound.{fit_opened, fit_limits, fit_letters, fit_mark, state_bank, stays, Timely, timely, branch_no_bank, cleared_ok, fit_touch, fit_items}
use Rattle.rules.proofs.Unique.{found}

-- an accepted message moves nothing, and its id joins the book
kept_message : (m : Machine) (h : Header) (ys : List Account) → Invariant m → Still m.accounts ys → All (Fit m.day) ys
    → T (not (in_book h.id m.ids)) → T (is_message_id h.id) → T (has_book_place m) → Kept m (with_id h ys m) Nothing
unfolding with_id has_book_place
kept_message m h ys v s f new ok room = kept_still m (with_id h ys m) v refl s f (book_joined m.day h.id m.ids new ok room v.book)

pub keep : (m : Machine) (room : ℕ) (k : Command) → Invariant m → first_failure (checks m room k) ≡ 0 → Kept m (effect m k) (event k)
unfolding checks effect event well_formed is_method is_letters is_day with_limits with_letters with_accounts with_id payment_checks limit_checks every opened is_none funds withdraws paid
keep m room (Bank c) v e =
    kept_join m (opened c none 0 0) v refl refl (held_opened c none 0 0)
    (fit_opened m.day c none 0 0 (passed 1 _ tt e) (omega arith) (omega arith) (λ b. (refl, refl))) tt (passed 2 _ tt e) (passed 3 _ tt e)
keep m room (Branch c o l p) v e =
    let w : T (is_code c && is_code o && leb l 3 && leb p 3) = passed 1 _ tt e in
    kept_join m (opened c (some o) l p) v refl refl (held_opened c (some o) l p)
    (fit_opened m.day c (some o) l p (search (and_l, and_r)) (leb→le l 3 (search (and_l, and_r))) (leb→le p 3 (search (and_l, and_r))) (λ b. absurd b))
    (passed 4 _ tt e, passed 5 _ tt e) (passed 2 _ tt e) (passed 3 _ tt e)
keep m room (Funding c a) v e =
    let f : Fit m.day (at c m.accounts) = all_at c (Fit m.day) m.accounts (passed 4 _ tt e) v.fit in
    kept_start m c (pos (nat_abs a)) (Funds (nat_abs a)) v (passed 4 _ tt e) (passed 5 _ tt e) (non_neg_up (held (at c m.accounts)) (nat_abs a) f.not_below)
    (difference_up (nat_abs a)) (λ chosen n. refl) (passed 8 _ tt e)
keep m room (Withdrawal c a) v e =
    let x : Account = at c m.accounts in
    let f : Fit m.day x = all_at c (Fit m.day) m.accounts (passed 4 _ tt e) v.fit in
    let b : T (is_bank x) = passed 5 _ tt e in
    kept_start m c (neg_ℤ (pos (nat_abs a))) (Withdraws (nat_abs a)) v (passed 4 _ tt e) b (stays m.day x (nat_abs a) b (passed 9 _ tt e) f)
    (difference_down (nat_abs a)) (λ chosen n. refl) (less_bounded m.accounts (nat_abs a) v.bounded)
keep m room (BankLimits c l p) v e =
    let xs : List Account = m.accounts in
    let r : T (non_neg l && is_limit l && is_limit p) = passed 6 _ tt e in
    let g : Limited (at c xs).owner (Value l) (Value p) =
    record { ltk_ok = search (and_l, and_r); lpo_ok = search (and_l, and_r); bank_ltk = λ b. search (and_l, and_r); bank_lpo = λ b. tt } in
    kept_still m (effect m (BankLimits c l p)) v refl (still_adjust c (quiet_limits (Value l) (Value p)) xs (marks_kept c (with_limits (Value l) (Value p)) (λ x. refl) xs))
    (all_adjust c (with_limits (Value l) (Value p)) (Fit m.day) xs
    (λ kn. fit_limits m.day (at c xs) (all_at c (Fit m.day) xs kn v.fit) (Value l) (Value p) g) v.fit)
    v.book
keep m room (Payment w s r a) v e =
    kept_pay m (is_credit w) (nat_abs a) (payer (is_credit w) s r) (payee (is_credit w) s r) v
    (payer_known (is_credit w) s r m.accounts (passed 4 _ tt e)) (payee_known (is_credit w) s r m.accounts (passed 4 _ tt e)) (passed 9 _ tt e) (passed 8 _ tt e)
keep m room (Change h is) v e =
    let w : T (is_header h && is_count (length is) && every is_item is) = passed 1 _ tt e in
    let t : Timely m.day h = timely m.day h (search (and_l, and_r)) (passed 17 _ tt e) in
    kept_message m h (set_items h is m.accounts) v (still_items h is m.accounts)
    (fit_items m.day h t m.accounts is (passed 20 _ tt e) (passed 6 _ tt e) m.accounts (λ c. refl) v.fit)
    (passed 14 _ tt e) (passed 16 _ tt e) (passed 22 _ tt e)
keep m room (Deletion h i t) v e =
    let xs : List Account = m.accounts in
    let w : T (is_header h && is_bytes 10 i && ltb t 256) = passed 1 _ tt e in
    let g : Timely m.day h = timely m.day h (search (and_l, and_r)) (passed 17 _ tt e) in
    let b : T (is_branch_of h.sender (named i) xs && true) = passed 20 _ tt e in
    let nb : T (not (is_bank (at (named i) xs))) = branch_no_bank h.sender (named i) xs (and_l (is_branch_of h.sender (named i) xs) true b) in
    kept_message m h (adjust (named i) (touch h t cleared) xs) v (still_adjust (named i) (quiet_touch h t cleared) xs (marks_kept (named i) (touch h t cleared) (touch_marked h t cleared) xs))
    (all_adjust (named i) (touch h t cleared) (Fit m.day) xs
    (λ kn. fit_touch m.day h g t cleared cleared_ok (at (named i) xs) nb (all_at (named i) (Fit m.day) xs kn v.fit)) v.fit)
    (passed 14 _ tt e) (passed 16 _ tt e) (passed 22 _ tt e)
keep m room (Query h is) v e =
    kept_message m h m.accounts v (still_refl m.accounts) v.fit (passed 14 _ tt e) (passed 16 _ tt e) (passed 22 _ tt e)
keep m room (Search h cs) v e =
    kept_message m h m.accounts v (still_refl m.accounts) v.fit (passed 14 _ tt e) (passed 16 _ tt e) (passed 22 _ tt e)
keep m room (Opening d) v e =
    let l : m.day < d = ltb→lt m.day d (passed 13 _ tt e) in
    kept_new_day m d v (omega arith) (ltb→lt d (2 ^ 32) (passed 1 _ tt e))
keep m room (Letters c l) v e =
    let xs : List Account = m.accounts in
    let w : T (is_code c && leb l 31) = passed 1 _ tt e in
    kept_still m (effect m (Letters c l)) v refl (still_adjust c (quiet_letters l) xs (marks_kept c (with_letters l) (λ x. refl) xs))
    (all_adjust c (with_letters l) (Fit m.day) xs
    (λ kn. fit_letters m.day (at c xs) (all_at c (Fit m.day) xs kn v.fit) l (leb→le l 31 (and_r (is_code c) _ w))) v.fit)
    v.book
keep m room (Mark c) v e =
    let xs : List Account = m.accounts in
    kept_still m (effect m (Mark c)) v refl (still_adjust c quiet_mark xs (λ k. marks_set c xs (passed 26 _ tt e)))
    (all_adjust c with_mark (Fit m.day) xs (λ kn. fit_mark m.day (at c xs) (all_at c (Fit m.day) xs kn v.fit) (passed 5 _ tt e)) v.fit)
    v.book

-- a call, whatever its answer
pub next_keeps : (m : Machine) (k : Call) → Invariant m → Kept m (next m k) (if_accepted (answer m k) (event k.command) Nothing)
unfolding if_accepted answer
next_keeps m k v =
    by_answer (λ n m'. Kept m m' (if_accepted n (event k.command) Nothing)) m k
    (λ n. kept_still m m v refl (still_refl m.accounts) v.fit v.book) (keep m k.room k.command v)

-- ---- every list of calls

pub start_inv : Invariant empty
unfolding empty codes total sum_over
start_inv = record {
  fit = tt;
  table = record { distinct = tt; few = omega arith };
  owned = tt;
  earlier = tt;
  bounded = tt;
  one_mark = omega arith;
  book = record { few = omega arith; fit = tt; in_order = tt };
  day_fits = omega arith;
}

pub run_inv : (ks : List Call) (m : Machine) → Invariant m → Invariant (run m ks)
unfolding run
run_inv [] m v = v
run_inv (k ∷ ks) m v = run_inv ks (next m k) (next_keeps m k v).inv

pub reachable : (ks : List Call) → Invariant (run empty ks)
reachable ks = run_inv ks empty start_inv

run_sum : (ks : List Call) (m : Machine) → Invariant m
    → total held (run m ks).accounts ≡ total held m.accounts +ℤ difference (sum_of funds (events ks (outcomes m ks))) (sum_of withdraws (events ks (outcomes m ks)))
unfolding run events outcomes outcome sum_of
run_sum [] m v = none_moved _ _ refl
run_sum (k ∷ ks) m v =
    let n : Kept m (next m k) (if_accepted (answer m k) (event k.command) Nothing) = next_keeps m k v in
    run_sum ks (next m k) n.inv
    ∙ ap (λ z. z +ℤ difference (sum_of funds (events ks (outcomes (next m k) ks))) (sum_of withdraws (events ks (outcomes (next m k) ks)))) n.sum
    ∙ +ℤ_assoc (total held m.accounts) _ _
    ∙ ap (λ z. total held m.accounts +ℤ z) (difference_add _ _ _ _)

run_metered : (c : ℕ) (ks : List Call) (m : Machine) → Invariant m → (i j : ℕ) → Metered c m.accounts i j
    → Metered c (run m ks).accounts (count (gets c) i (events ks (outcomes m ks))) (count (gives c) j (events ks (outcomes m ks)))
unfolding run events outcomes outcome count
run_metered c [] m v i j h = h
run_metered c (k ∷ ks) m v i j h = run_metered c ks (next m k) (next_keeps m k v).inv _ _ ((next_keeps m k v).metered c i j h)

bank_above : (today : ℕ) (x : Account) → Fit today x → T (is_bank x) → pos 0 ≤ℤ state x
bank_above today x f b = ≤ℤ_out (pos 0) (state x) (rw (state_bank x b) (omega (arith, non_neg_in (held x) f.not_below)))

-- ---- a count that goes on from a start

paid_from : (chosen : ℕ → ℕ → Bool) (e : Event) (n : ℕ) → paid chosen e n ≡ cond (is_opening e) 0 n + paid chosen e 0
unfolding paid is_opening
paid_from chosen (Funds a) n = omega arith
paid_from chosen (Withdraws a) n = omega arith
paid_from chosen (Pays p q a) n = elim (chosen p q) as (λ b. cond b (n + a) n ≡ n + cond b (0 + a) 0) [ true ↦ omega arith | false ↦ omega arith ]
paid_from chosen Opens n = omega arith
paid_from chosen Nothing n = omega arith

count_from : (chosen : ℕ → ℕ → Bool) (n : ℕ) (es : List Event) → count chosen n es ≡ cond (day_opened es) 0 n + count chosen 0 es
unfolding count day_opened some?
count_from chosen n [] = omega arith
count_from chosen n (e ∷ es) =
    go (is_opening e) (day_opened es) (paid chosen e n) (paid chosen e 0) (count chosen 0 es) (paid_from chosen e n) (count_from chosen (paid chosen e n) es) (count_from chosen (paid chosen e 0) es)
  where
    go : (o d : Bool) (u v z : ℕ) {x y : ℕ} → u ≡ cond o 0 n + v → x ≡ cond d 0 u + z → y ≡ cond d 0 v + z → x ≡ cond (o || d) 0 n + y
    go true true u v z p q r = omega arith
    go true false u v z p q r = omega arith
    go false true u v z p q r = omega arith
    go false false u v z p q r = omega arith

-- ---- the parts of the demand, from a sound start

module _ (s : Machine) (v : Invariant s) where
  pub balanced : (ks : List Call)
      → total held (run s ks).accounts ≡ total held s.accounts +ℤ difference (sum_of funds (events ks (outcomes s ks))) (sum_of withdraws (events ks (outcomes s ks)))
  balanced ks = run_sum ks s v

  pub none_below : (ks : List Call) → All (λ x. T (is_bank x) → pos 0 ≤ℤ state x) (run s ks).accounts
  none_below ks = all_imp (bank_above (run s ks).day) (run s ks).accounts (run_inv ks s v).fit

  pub branches : (ks : List Call)
      → All (λ x. T (not (is_bank x)) → balance x.turnovers ≡ brought_forward s (events ks (outcomes s ks)) x.code
      +ℤ difference (brought x.code (events ks (outcomes s ks))) (taken x.code (events ks (outcomes s ks)))) (run s ks).accounts
  unfolding brought taken is_bank brought_forward
  branches ks = all_imp at_code xs (found xs (run_inv ks s v).table.distinct)
    where
      xs : List Account
      xs = (run s ks).accounts

      es : List Event
      es = events ks (outcomes s ks)

      t : ℕ → Turnovers
      t c = (at c s.accounts).turnovers

      forward : (c : ℕ) → difference (cond (day_opened es) 0 (inflow (t c))) (cond (day_opened es) 0 (outflow (t c))) ≡ brought_forward s es c
      forward c =
          elim (day_opened es) as (λ d. difference (cond d 0 (inflow (t c))) (cond d 0 (outflow (t c))) ≡ cond d (pos 0) (balance (t c)))
          [ true ↦ difference_self 0 | false ↦ sym (balance_is (t c)) ]

      by_code : (c : ℕ) → T (not (is_bank (at c xs))) → balance (at c xs).turnovers ≡ brought_forward s es c +ℤ difference (brought c es) (taken c es)
      by_code c nb =
          let h = run_metered c ks s v (inflow (t c)) (outflow (t c)) (λ u. (refl, refl)) nb in
          balance_is (at c xs).turnovers
          ∙ ap₂ difference (h.0 ∙ count_from (gets c) (inflow (t c)) es) (h.1 ∙ count_from (gives c) (outflow (t c)) es)
          ∙ sym (difference_add (cond (day_opened es) 0 (inflow (t c))) (cond (day_opened es) 0 (outflow (t c))) (brought c es) (taken c es))
          ∙ ap (λ z. z +ℤ difference (brought c es) (taken c es)) (forward c)

      at_code : (x : Account) → at x.code xs ≡ x → T (not (is_bank x)) → balance x.turnovers ≡ brought_forward s es x.code +ℤ difference (brought x.code es) (taken x.code es)
      at_code x e =
          subst (λ y. T (not (is_bank y)) → balance y.turnovers ≡ brought_forward s es x.code +ℤ difference (brought x.code es) (taken x.code es)) e (by_code x.code)

-- ---- from the empty machine nothing is brought forward

pub empty_total : (z : ℤ) → total held empty.accounts +ℤ z ≡ z
unfolding empty total
empty_total z = +ℤ_idl z

pub empty_forward : (es : List Event) (c : ℕ) (z : ℤ) → brought_forward empty es c +ℤ z ≡ z
unfolding brought_forward empty at blank opened no_turnovers balance day_balance
empty_forward es c z =
    elim (day_opened es) as (λ d. cond d (pos 0) (difference 0 0) +ℤ z ≡ z) [ true ↦ +ℤ_idl z | false ↦ ap (λ y. y +ℤ z) (difference_self 0) ∙ +ℤ_idl z ]

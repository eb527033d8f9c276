-- What a call on the whole record has to show where it refuses and where it accepts. Assumes nothing.
use mathlib.Core.Path.{◌≡◌, refl, sym, ap, ◌∙◌, subst}
use mathlib.Core.Bool.{Bool, true, false, cond, not}
use mathlib.Core.List.{List, [], ◌∷◌}
use Prim.Native.Nat.{ℕ, zero, suc, ◌+◌, ◌≤◌, ◌<◌}
use native.Mathlib.Omega.{arith}
use borrow.Author.Tests.{leb-true, leb-false, lt-ltb, le-ltb}
use lib.Dec.{T, leb, ltb, ltb→lt}
use lib.ListN.{length}
use Rattle.octets.specs.Octets.{write}
use Rattle.octets.proofs.Places.{take_none}
use Rattle.rules.specs.Account as Rule
use Rattle.rules.specs.Account.{codes}
use Rattle.rules.specs.Command.{Header, Command, Opening}
use Rattle.rules.specs.Invariant.{Invariant}
use Rattle.rules.specs.Machine.{Machine, empty, with_id, has_book_place, checks, effect, first_failure, answer, if_accepted, next, outcome}
use Rattle.rules.specs.Message.{keep_from}
use Rattle.rules.proofs.Bools.{and_l, and_r}
use Rattle.rules.proofs.Checks.{refused_keeps}
use Rattle.rules.proofs.Theorem.{next_keeps, start_inv}
use Rattle.table.specs.declared.Table.{Table}
use Rattle.table.specs.Promise.{Reply, OwnCodes, Good, Beyond, Called}
use Rattle.table.specs.View.{accounts_of, machine_of}
use Rattle.table.proofs.Called.{stays}
use Rattle.book.specs.declared.Book.{Book}
use Rattle.book.specs.Entries.{entries_of, book_of, Lengths, Behind, Added, Dropped}
use Rattle.book.proofs.Laws.{untouched, entries_length}
use Rattle.ledger.specs.declared.Ledger.{Ledger}
use Rattle.ledger.specs.View.{view_of, ledger_view, lent, outcome_of, next_of}
use Rattle.ledger.specs.Promise.{Noted, Sound, SoundLedger, Same, Settled, Played}
use Rattle.ledger.specs.Calls.{plain, silent}
use Rattle.ledger.proofs.Reaches.{with_book, below, checks_small, unreported}
use Rattle.ledger.proofs.Lift.{lifted, lifted_day, inv_table}

-- ---- the table of a sound record

module _ (t : Table) (ids days : List ℕ) (used : ℕ) where
  view_is : view_of t ids days used ≡ with_book (entries_of ids days used) (machine_of t)
  unfolding view_of with_book machine_of
  view_is = refl

  pub good_table : Sound t ids days used → Good t
  good_table g = record { own = g.own; inv = inv_table (entries_of ids days used) t (subst Invariant view_is g.inv) }

  pub unchanged : Same t ids days used t ids days used
  unchanged = record { table_same = refl; ids_same = refl; days_same = refl; used_same = refl }

-- ---- a call that has no report

module _ (k : Command) (t : Table) (ids days : List ℕ) (used : ℕ) where
  pub settled_no : (a : ℕ) → a ≡ answer (view_of t ids days used) (lent 0 k) → ¬ (a ≡ 0) → Settled k t ids days used (record { answer = a; table = t; used = used }) ids days
  settled_no a e h = record {
    says = e;
    moves = sym (refused_keeps (view_of t ids days used) (lent 0 k) (λ z. h (e ∙ z)));
    refused = λ z. unchanged t ids days used;
    behind = untouched ids days used;
    beyond = stays t;
    sound = λ g. g;
  }

  -- the record after an accepted call is sound where it is the machine's next
  pub next_sound : Sound t ids days used → (room : ℕ) (u : Table) (ids' days' : List ℕ) (used' : ℕ) → OwnCodes u.codes u.count (accounts_of u) → used' ≤ 1024 → Lengths ids' days'
      → view_of u ids' days' used' ≡ next (view_of t ids days used) (lent room k) → Sound u ids' days' used'
  next_sound g room u ids' days' used' o f l v = record {
    own = o;
    few = f;
    lengths = l;
    inv = subst Invariant (sym v) (next_keeps (view_of t ids days used) (lent room k) g.inv).inv;
  }

  pub next_effect : (room : ℕ) → answer (view_of t ids days used) (lent room k) ≡ 0 → effect (view_of t ids days used) k ≡ next (view_of t ids days used) (lent room k)
  unfolding next if_accepted
  next_effect room e = sym (ap (λ n. if_accepted n (effect (view_of t ids days used) k) (view_of t ids days used)) e)

  pub settled_yes : (u : Table) (ids' days' : List ℕ) (used' : ℕ) → answer (view_of t ids days used) (lent 0 k) ≡ 0 → OwnCodes u.codes u.count (accounts_of u)
      → used' ≤ 1024 → Lengths ids' days' → Behind ids days ids' days' used' → Beyond t u → view_of u ids' days' used' ≡ effect (view_of t ids days used) k
      → Settled k t ids days used (record { answer = 0; table = u; used = used' }) ids' days'
  settled_yes u ids' days' used' e o f l b y v =
      let moved : view_of u ids' days' used' ≡ next (view_of t ids days used) (lent 0 k) = v ∙ next_effect 0 e in
      record { says = sym e; moves = moved; refused = λ h. absurd (h refl); behind = b; beyond = y; sound = λ g. next_sound g 0 u ids' days' used' o f l moved }

-- a call on the table alone
pub settled_table : (k : Command) (t : Table) (ids days : List ℕ) (used : ℕ) (r : Reply) → T (plain k) → Called k t r
    → Settled k t ids days used (record { answer = r.answer; table = r.table; used = used }) ids days
unfolding view_of with_book machine_of
settled_table k t ids days used r p c =
    let l = lifted (entries_of ids days used) 0 k t r p c in
    record {
      says = l.0;
      moves = l.1;
      refused = λ h. record { table_same = c.refused h; ids_same = refl; days_same = refl; used_same = refl };
      behind = untouched ids days used;
      beyond = c.beyond;
      sound = λ g. let good = c.good (good_table t ids days used g) in next_sound k t ids days used g 0 r.table ids days used good.own g.few g.lengths l.1;
    }

-- 0a: the table's part, and where it is accepted ids have left the book
pub settled_day_no : (d : ℕ) (t : Table) (ids days : List ℕ) (used : ℕ) (r : Reply) → Called (Opening d) t r → ¬ (r.answer ≡ 0)
    → Settled (Opening d) t ids days used (record { answer = r.answer; table = r.table; used = used }) ids days
settled_day_no d t ids days used r c h =
    let l = lifted_day (entries_of ids days used) 0 d t r c in
    subst (λ (u : Table). Settled (Opening d) t ids days used (record { answer = r.answer; table = u; used = used }) ids days) (sym (c.refused h))
    (settled_no (Opening d) t ids days used r.answer (l.0 ∙ ap (λ (m : Machine). answer m (lent 0 (Opening d))) (sym (view_is t ids days used))) h)

pub settled_day_yes : (d : ℕ) (t : Table) (ids days : List ℕ) (used : ℕ) (r : Reply) (ids' days' : List ℕ) (kept : ℕ) → used ≤ 1024 → Called (Opening d) t r → r.answer ≡ 0
    → Dropped ids days used t.day ids' days' kept → Settled (Opening d) t ids days used (record { answer = r.answer; table = r.table; used = kept }) ids' days'
unfolding view_of with_book machine_of if_accepted
settled_day_yes d t ids days used r ids' days' kept few c z b =
    let es = entries_of ids days used in
    let l = lifted_day es 0 d t r c in
    let moved : view_of r.table ids' days' kept ≡ next (view_of t ids days used) (lent 0 (Opening d)) =
    ap (λ xs. with_book xs (machine_of r.table)) (b.entries ∙ sym (ap (λ n. if_accepted n (keep_from t.day es) es) z)) ∙ l.1 in
    record {
      says = l.0;
      moves = moved;
      refused = λ h. absurd (h z);
      behind = b.behind;
      beyond = c.beyond;
      sound = λ g. let good = c.good (good_table t ids days used g) in next_sound (Opening d) t ids days used g 0 r.table ids' days' kept good.own (omega (arith, b.fewer, few)) b.lengths moved;
    }

-- ---- a message's id joins the book

pub noted : (t u : Table) (ids days : List ℕ) (used : ℕ) (ids' days' : List ℕ) (h : Header) (xs : List Rule.Account) → u.day ≡ t.day → accounts_of u ≡ xs → Added ids days used h.id t.day ids' days'
    → view_of u ids' days' (used + 1) ≡ with_id h xs (view_of t ids days used)
unfolding view_of with_id
noted t u ids days used ids' days' h xs d a b =
    ap (λ n. record { day = n; accounts = accounts_of u; ids = entries_of ids' days' (used + 1) }) d
    ∙ ap (λ ys. record { day = t.day; accounts = ys; ids = entries_of ids' days' (used + 1) }) a
    ∙ ap (λ es. record { day = t.day; accounts = xs; ids = es }) b.entries

-- ---- every call, with the lent report buffer

silent_outcome : (m : Machine) (room : ℕ) (k : Command) → T (silent k) → record { answer = answer m (lent 0 k); report = [] } ≡ outcome m (lent room k)
unfolding outcome if_accepted
silent_outcome m room k s =
    ap (λ n. record { answer = n; report = [] }) (unreported m [] room k s).0
    ∙ ap (λ bs. record { answer = answer m (lent room k); report = bs }) (sym (ap (λ bs. if_accepted (answer m (lent room k)) bs []) (unreported m [] room k s).1 ∙ neither (answer m (lent room k))))
  where
    neither : (n : ℕ) → if_accepted {A = List ℕ} n [] [] ≡ []
    neither zero = refl
    neither (suc n) = refl

pub played_silent : (k : Command) (t : Table) (ids days : List ℕ) (used : ℕ) (report : List ℕ) (r : Noted) (ids' days' : List ℕ) → T (silent k) → Settled k t ids days used r ids' days'
    → Played (k ∷ []) t ids days used report (record { answer = r.answer; table = r.table; used = r.used; report_len = 0 }) ids' days' report
unfolding next write outcome_of next_of
played_silent k t ids days used report r ids' days' s p = record {
  says =
      ap (λ bs. record { answer = r.answer; report = bs }) (take_none report)
      ∙ ap (λ n. record { answer = n; report = [] }) p.says
      ∙ silent_outcome (view_of t ids days used) (length report) k s;
  moves = p.moves ∙ ap (λ n. if_accepted n (effect (view_of t ids days used) k) (view_of t ids days used)) (unreported (view_of t ids days used) [] (length report) k s).0;
  bytes = sym (ap (write report 0) (take_none report));
  fits = omega arith;
  refused = p.refused;
  behind = p.behind;
  beyond = p.beyond;
  sound = p.sound;
}

-- bytes that hold no command
pub played_none : (t : Table) (ids days : List ℕ) (used : ℕ) (report : List ℕ) → Played [] t ids days used report (record { answer = 1; table = t; used = used; report_len = 0 }) ids days report
unfolding outcome_of next_of write
played_none t ids days used report = record {
  says = ap (λ bs. record { answer = 1; report = bs }) (take_none report);
  moves = refl;
  bytes = sym (ap (write report 0) (take_none report));
  fits = omega arith;
  refused = λ h. unchanged t ids days used;
  behind = untouched ids days used;
  beyond = stays t;
  sound = λ g. g;
}

-- ---- an answer has two digits

failure_small : (cs : List (ℕ × Bool)) → T (below cs) → first_failure cs < 100
unfolding first_failure
failure_small [] b = omega arith
failure_small (c ∷ cs) b =
    elim c.1 as (λ f. cond f (first_failure cs) c.0 < 100)
    [ true ↦ failure_small cs (and_r (ltb c.0 100) (below cs) b) | false ↦ ltb→lt c.0 100 (and_l (ltb c.0 100) (below cs) b) ]

pub answer_small : (m : Machine) (room : ℕ) (cs : List Command) → (outcome_of m room cs).answer < 100
unfolding outcome_of outcome answer
answer_small m room [] = omega arith
answer_small m room (k ∷ cs) = failure_small (checks m room k) (checks_small m room k)

-- ---- a place in the book

pub not_full : (l : Ledger) → not (leb 1024 l.book.used) ≡ has_book_place (ledger_view l)
unfolding has_book_place ledger_view view_of
not_full l = rw (entries_length l.book.ids l.book.days l.book.used) (go (leb 1024 l.book.used) refl)
  where
    go : (b : Bool) → leb 1024 l.book.used ≡ b → not b ≡ ltb l.book.used 1024
    go true e = sym (le-ltb l.book.used 1024 (leb-true 1024 l.book.used e))
    go false e = sym (lt-ltb l.book.used 1024 (leb-false 1024 l.book.used e))

-- ---- the start

pub started : (t : Table) (b : Book) → Good t → machine_of t ≡ empty → b.used ≡ 0 → book_of b ≡ [] → length b.ids ≡ 32768 → length b.days ≡ 1024
    → (SoundLedger (record { table = t; book = b })) × (ledger_view (record { table = t; book = b }) ≡ empty)
unfolding ledger_view view_of machine_of book_of empty with_book
started t b g m none e long days_long =
    let seen : view_of t b.ids b.days b.used ≡ empty = ap (λ es. with_book es (machine_of t)) e ∙ ap (with_book []) m in
    (record { own = g.own; few = omega (arith, none); lengths = record { ids_long = long; days_long = days_long }; inv = subst Invariant (sym seen) start_inv }, seen)

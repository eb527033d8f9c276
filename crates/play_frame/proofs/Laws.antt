-- A call's promise as that of the command that it plays. Assumes nothing.
use mathlib.Core.Path.{◌≡◌, subst}
use mathlib.Core.List.{List, [], ◌∷◌}
use native.Mathlib.Omega.{arith}
use Prim.Native.Nat.{ℕ, ◌+◌, ◌-◌, ◌≤◌}
use lib.Dec.{T}
use Rattle.rules.specs.Command.{Command}
use Rattle.rules.specs.Invariant.{Book}
use Rattle.book.specs.Entries.{entries_of}
use Rattle.book.proofs.Laws.{first_places}
use Rattle.table.specs.declared.Table.{Table}
use Rattle.table.specs.Promise.{Called}
use Rattle.ledger.specs.Promise.{Sound, Settled, Played}
use Rattle.ledger.specs.View.{view_of}
use Rattle.ledger.specs.Calls.{Reach, OnTable, OnBook, OnReport, reach, table_alone, no_report, plain, silent}
use Rattle.ledger.proofs.Laws.{settled_table, played_silent}

-- a record that loses ids is sound all the same: so an edit that forgets them is refused for what the call promises
pub fewer : {t : Table} {ids days : List ℕ} {used n : ℕ} → n ≤ used → Sound t ids days used → Sound t ids days n
unfolding view_of
fewer {t} {ids} {days} {used} {n} h s =
    let i = s.inv in
    let e : used ≡ n + (used - n) = omega arith in
    record {
      own = s.own;
      few = omega (arith, h, s.few);
      lengths = s.lengths;
      inv = record {
        fit = i.fit;
        table = i.table;
        owned = i.owned;
        earlier = i.earlier;
        bounded = i.bounded;
        one_mark = i.one_mark;
        book = first_places t.day ids days n (used - n) (subst (λ u. Book t.day (entries_of ids days u)) e i.book);
        day_fits = i.day_fits;
      };
    }

-- a kind that looks at the table alone has no report
plain_silent : (k : Command) → T (plain k) → T (silent k)
plain_silent k = go (reach k)
  where
    go : (r : Reach) → T (table_alone r) → T (no_report r)
    go OnTable p = p
    go OnBook p = absurd p
    go OnReport p = absurd p

-- k is played by a call that answers a, what comes back answers b, and has a report of the length n
module _ {k : Command} {t u : Table} {ids days : List ℕ} {used a : ℕ} where
  -- a call on table and book
  pub by_book : {used' b n : ℕ} {ids' days' report : List ℕ} → T (silent k) → Settled k t ids days used (record { answer = a; table = u; used = used' }) ids' days' → (b ≡ a) × (n ≡ 0)
      → Played (k ∷ []) t ids days used report (record { answer = b; table = u; used = used'; report_len = n }) ids' days' report
  by_book {ids' = ids'} {days' = days'} {report = report} q p e = rw (e.0, e.1) (played_silent k t ids days used report _ ids' days' q p)

  -- a call on the table alone
  pub by_table : {b n : ℕ} {report : List ℕ} → T (plain k) → Called k t (record { answer = a; table = u }) → (b ≡ a) × (n ≡ 0)
      → Played (k ∷ []) t ids days used report (record { answer = b; table = u; used = used; report_len = n }) ids days report
  by_table q c = by_book (plain_silent k q) (settled_table k t ids days used _ q c)

  pub sound_after : T (plain k) → Called k t (record { answer = a; table = u }) → Sound t ids days used → Sound u ids days used
  sound_after q c = (settled_table k t ids days used _ q c).sound

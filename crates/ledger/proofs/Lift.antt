-- A call on the table alone is the whole machine's call, with any book and any length of the report buffer. Assumes nothing.
use mathlib.Core.Path.{◌≡◌, refl, sym, ap, ◌∙◌}
use mathlib.Core.List.{List, []}
use Prim.Native.Nat.{ℕ, zero, suc}
use native.Mathlib.Omega.{arith}
use lib.Dec.{T}
use Rattle.rules.specs.Command.{Command, Opening}
use Rattle.rules.specs.Invariant.{Book, Invariant}
use Rattle.rules.specs.Machine.{Machine, checks, effect, answer, if_accepted, next}
use Rattle.rules.specs.Message.{Entry, keep_from}
use Rattle.table.specs.declared.Table.{Table}
use Rattle.table.specs.View.{machine_of}
use Rattle.table.specs.Promise.{Reply, call, Called}
use Rattle.ledger.specs.View.{lent}
use Rattle.ledger.specs.Calls.{plain}
use Rattle.ledger.proofs.Reaches.{with_book, on_table}

-- ---- on the table alone

module _ (es : List Entry) (room : ℕ) where
  same_next : (m : Machine) (k : Command) → T (plain k) → next (with_book es m) (lent room k) ≡ with_book es (next m (call k))
  unfolding next if_accepted call
  same_next m k p = ap (λ a. if_accepted a (effect (with_book es m) k) (with_book es m)) (on_table m es room k p).0 ∙ go (answer m (call k))
    where
      go : (a : ℕ) → if_accepted a (effect (with_book es m) k) (with_book es m) ≡ with_book es (if_accepted a (effect m k) m)
      go zero = (on_table m es room k p).1
      go (suc a) = refl

  pub lifted : (k : Command) (t : Table) (r : Reply) → T (plain k) → Called k t r
      → (r.answer ≡ answer (with_book es (machine_of t)) (lent room k)) × (with_book es (machine_of r.table) ≡ next (with_book es (machine_of t)) (lent room k))
  lifted k t r p c = (c.says ∙ sym (on_table (machine_of t) es room k p).0, ap (with_book es) c.moves ∙ sym (same_next (machine_of t) k p))

  -- ---- 0a: where it is accepted, ids leave the book too

  pub lifted_day : (d : ℕ) (t : Table) (r : Reply) → Called (Opening d) t r
      → (r.answer ≡ answer (with_book es (machine_of t)) (lent room (Opening d)))
      × (with_book (if_accepted r.answer (keep_from t.day es) es) (machine_of r.table) ≡ next (with_book es (machine_of t)) (lent room (Opening d)))
  unfolding answer call checks with_book next if_accepted effect machine_of
  lifted_day d t r c = (
    c.says,
    ap (with_book (if_accepted r.answer (keep_from t.day es) es)) c.moves
        ∙ ap (λ a. with_book (if_accepted a (keep_from t.day es) es) (next (machine_of t) (call (Opening d)))) c.says
        ∙ go (answer (machine_of t) (call (Opening d))),
  )
    where
      go : (a : ℕ) → with_book (if_accepted a (keep_from t.day es) es) (if_accepted a (effect (machine_of t) (Opening d)) (machine_of t)) ≡ if_accepted a (effect (with_book es (machine_of t)) (Opening d)) (with_book es (machine_of t))
      go zero = refl
      go (suc a) = refl

-- ---- the invariant of the two

pub inv_book : (es : List Entry) (m : Machine) → Invariant m → Book m.day es → Invariant (with_book es m)
unfolding with_book
inv_book es m v b = record { fit = v.fit; table = v.table; owned = v.owned; earlier = v.earlier; bounded = v.bounded; one_mark = v.one_mark; book = b; day_fits = v.day_fits }

pub inv_table : (es : List Entry) (t : Table) → Invariant (with_book es (machine_of t)) → Invariant (machine_of t)
unfolding with_book machine_of
inv_table es t v = inv_book [] (with_book es (machine_of t)) v (record { few = omega arith; fit = tt; in_order = tt })

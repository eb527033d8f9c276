-- What a call that writes a report and puts its id into the book has to show, where it refuses and where it accepts. Assumes nothing.
use Rattle.std.specs.Prelude.{Result, Ok, Err}
use mathlib.Core.Path.{◌≡◌, refl, sym, ap, ap₂, ◌∙◌}
use mathlib.Core.List.{List, [], ◌∷◌}
use Prim.Native.Nat.{ℕ, ◌+◌, ◌≤◌, ◌<◌}
use native.Mathlib.Omega.{arith}
use lib.ListN.{length, take}
use Rattle.octets.specs.Octets.{part, write}
use Rattle.octets.proofs.Places.{take_none, write_part}
use Rattle.rules.specs.Command.{Header, Command}
use Rattle.rules.specs.Machine.{with_id, effect, answer, if_accepted, next, outcome}
use Rattle.rules.specs.Report.{report_of}
use Rattle.rules.proofs.Checks.{refused_keeps, refused_reports_nothing}
use Rattle.refusal.specs.declared.Refusal.{Refusal}
use Rattle.refusal.specs.Answer.{number}
use Rattle.refusal.proofs.Numbers.{no_zero}
use Rattle.table.specs.View.{accounts_of}
use Rattle.table.proofs.Called.{stays}
use Rattle.book.specs.Entries.{Added}
use Rattle.book.proofs.Laws.{untouched}
use Rattle.ledger.specs.declared.Ledger.{Ledger}
use Rattle.ledger.specs.View.{view_of, ledger_view, lent, outcome_of, next_of}
use Rattle.ledger.specs.Promise.{Reports}
use Rattle.ledger.proofs.Laws.{unchanged, next_sound, next_effect, noted}

module _ (k : Command) (l : Ledger) (report : List ℕ) where
  -- a refusal writes nothing
  pub declined : (r : Result ℕ Refusal) (e : Refusal) → r ≡ Err e → number e ≡ answer (ledger_view l) (lent (length report) k) → Reports (k ∷ []) l report r l report
  unfolding ledger_view outcome_of next_of outcome write
  declined r e is says =
      let m = ledger_view l in
      let c = lent (length report) k in
      let refused : ¬ (answer m c ≡ 0) = λ z. no_zero e (says ∙ z) in
      rw is (record {
        says = ap (λ bs. record { answer = number e; report = bs }) (take_none report) ∙ ap₂ (λ n bs. record { answer = n; report = bs }) says (sym (refused_reports_nothing m c refused));
        moves = sym (refused_keeps m c refused);
        bytes = sym (ap (write report 0) (take_none report));
        fits = omega arith;
        refused = λ z. unchanged l.table l.book.ids l.book.days l.book.used;
        behind = untouched l.book.ids l.book.days l.book.used;
        beyond = stays l.table;
        sound = λ g. g;
      })

  -- the report is written and the id joins the book
  pub reported : (h : Header) (u : Ledger) (report' : List ℕ) (n : ℕ) → effect (ledger_view l) k ≡ with_id h (accounts_of l.table) (ledger_view l)
      → answer (ledger_view l) (lent (length report) k) ≡ 0 → l.book.used < 1024
      → u.table ≡ l.table → u.book.used ≡ l.book.used + 1 → Added l.book.ids l.book.days l.book.used h.id l.table.day u.book.ids u.book.days
      → report' ≡ write report 0 (report_of (accounts_of l.table) k) → n ≡ length (report_of (accounts_of l.table) k) → n ≤ length report → Reports (k ∷ []) l report (Ok n) u report'
  unfolding ledger_view outcome_of next_of outcome if_accepted part view_of accounts_of
  reported h u report' n step e f same more b w q z =
      let bs = report_of (accounts_of l.table) k in
      let read : take n report' ≡ bs = ap (take n) w ∙ ap (λ (j : ℕ). take j (write report 0 bs)) q ∙ write_part report 0 bs (omega arith) in
      let moved : ledger_view u ≡ next (ledger_view l) (lent (length report) k) =
      ap (view_of u.table u.book.ids u.book.days) more
      ∙ noted l.table u.table l.book.ids l.book.days l.book.used u.book.ids u.book.days h (accounts_of l.table) (ap (λ t. t.day) same) (ap accounts_of same) b
      ∙ sym step
      ∙ next_effect k l.table l.book.ids l.book.days l.book.used (length report) e in
      record {
        says = ap (λ r. record { answer = 0; report = r }) read ∙ sym (ap (λ (a : ℕ). record { answer = a; report = if_accepted a bs [] }) e);
        moves = moved;
        bytes = w ∙ ap (write report 0) (sym read);
        fits = z;
        refused = λ r. absurd (r refl);
        behind = rw more b.behind;
        beyond = rw same (stays l.table);
        sound = λ g. next_sound k l.table l.book.ids l.book.days l.book.used g (length report) u.table u.book.ids u.book.days u.book.used (rw same g.own) (omega arith) b.lengths moved;
      }

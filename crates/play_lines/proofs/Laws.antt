-- Laws of a run. Assumes nothing.
use mathlib.Core.Path.{◌≡◌, refl, sym, ap, ap₂, ◌∙◌}
use mathlib.Core.Logic.{◌⊎◌, ⊎_elim}
use mathlib.Core.List.{List, [], ◌∷◌, ◌++◌, append_assoc, append-nil}
use borrow.Author.Tests.{le-leb, lt-leb}
use Prim.Native.Nat.{ℕ, ◌+◌, ◌*◌, ◌-◌, ◌≤◌, ◌<◌}
use native.Mathlib.Omega.{arith}
use lib.ListN.{length, take, drop, length-append}
use lib.Seq.{length-take-le}
use Rattle.octets.specs.Octets.{write}
use Rattle.octets.proofs.Places.{write_then, write_length}
use Rattle.octet_writer.specs.Written.{Written}
use Rattle.rules.specs.Machine.{Machine, Outcome}
use Rattle.frame.specs.Frame.{commands_of, line_frame}
use Rattle.table.specs.declared.Table.{Table}
use Rattle.ledger.specs.Promise.{Stepped, Sound, Played}
use Rattle.ledger.specs.View.{view_of, outcome_of, next_of}
use Rattle.ledger.proofs.Bytes.{book_bytes}
use Rattle.ledger.proofs.Laws.{answer_small}
use Rattle.lines.specs.Text.{whole_lines, joined, printed, answer_room, report_room}
use Rattle.lines.proofs.Next.{NextIs}
use Rattle.lines.proofs.Laws.{next_line, next_whole, next_joined, printed_length}
use Rattle.play_lines.specs.Lines.{commands_in, line_outcome, line_next, played, line_outcomes, printed_all, printed_lines, fitting, overwritten, book_ids, book_days}
use Rattle.play_lines.specs.Run.{Passed}
use Rattle.play_lines.proofs.Sequence.{played_snoc, printed_snoc, overwritten_snoc}

-- ---- a step on a line, with room for the longest report

module _ (t : Table) (ids days : List ℕ) (used : ℕ) (l report : List ℕ) (r : Stepped) (ids' days' report' : List ℕ)
    (s : Played (commands_of (line_frame l)) t ids days used report r ids' days' report') where
  pub small : r.answer < 100
  small = omega (arith, ap (λ (o : Outcome). o.answer) s.says, answer_small (view_of t ids days used) (length report) (commands_of (line_frame l)))

  pub same_report : length report' ≡ length report
  same_report = ap length s.bytes ∙ write_length report 0 (take r.report_len report')

  -- from the machine m, which the record is
  module _ (m : Machine) (is : view_of t ids days used ≡ m) (room : length report ≡ report_room) where
    pub line_outcome_lem : record { answer = r.answer; report = take r.report_len report' } ≡ line_outcome m l
    unfolding line_outcome commands_in
    line_outcome_lem = s.says ∙ ap₂ (λ v n. outcome_of v n (commands_of (line_frame l))) is room

    pub line_next_lem : view_of r.table ids' days' r.used ≡ line_next m l
    unfolding line_next commands_in
    line_next_lem = s.moves ∙ ap₂ (λ v n. next_of v n (commands_of (line_frame l))) is room

-- ---- which lines are played

-- one line more, which has room
fitting_more : (m : Machine) (room : ℕ) (ls : List (List ℕ)) (l : List ℕ) (more : List (List ℕ)) → ls ≡ l ∷ more → answer_room ≤ room → {o : Outcome} → o ≡ line_outcome m l → {n : Machine}
    → n ≡ line_next m l → (left : ℕ) → left ≡ room - length (printed o.answer o.report) → fitting m room ls ≡ l ∷ fitting n left more
unfolding fitting
fitting_more m room ls l more is h a b left c = rw (is, le-leb answer_room room h, c, a, b) refl

-- no line has room
none_fitting : (m : Machine) (room : ℕ) (ls : List (List ℕ)) → room < answer_room → fitting m room ls ≡ []
unfolding fitting
none_fitting m room [] h = refl
none_fitting m room (l ∷ ls) h = rw (lt-leb answer_room room h) refl

-- ---- the lent book

-- one line more
more_over : (said : Machine → List ℕ) (m : Machine) (ls : List (List ℕ)) (l array₀ : List ℕ) {array array' : List ℕ} {n : Machine} → array ≡ overwritten said m ls array₀ → n ≡ line_next (played m ls) l
    → array' ≡ write array 0 (said n) → array' ≡ overwritten said m (ls ++ (l ∷ [])) array₀
more_over said m ls l array₀ is e w = w ∙ ap₂ (λ (a : List ℕ) (k : Machine). write a 0 (said k)) is e ∙ sym (overwritten_snoc said m ls l array₀)

-- ---- the loop

-- nothing is played yet
pub begin : (input out : List ℕ) (t : Table) (ids days : List ℕ) (used : ℕ) → Sound t ids days used
    → Passed (view_of t ids days used) ids days input out t ids days used 0 0 out
unfolding joined played overwritten line_outcomes printed_all printed_lines write
begin input out t ids days used g = record {
  lines = [];
  sound = g;
  within = omega arith;
  text = refl;
  rest = refl;
  chosen = let z : length out ≡ length out - 0 = omega arith in ap (λ n. fitting (view_of t ids days used) n (whole_lines input)) z;
  state = refl;
  ids_are = refl;
  days_are = refl;
  room = omega arith;
  bytes = refl;
  long = refl;
}

-- one line more, which ends at e
module _ (m : Machine) {ids₀ days₀ : List ℕ} (input out : List ℕ) (t : Table) (ids days : List ℕ) (used read written e : ℕ) (out' : List ℕ)
    (p : Passed m ids₀ days₀ input out t ids days used read written out') (n : NextIs input read (length out - written) e) (h : e < length input) where
  pub forward : read ≤ e
  forward = omega (arith, (n.found h).0)

  pub fits : written + answer_room ≤ length out
  fits = omega (arith, (n.found h).1)

  pub turn : (l ids' days' report report' out'' : List ℕ) (r : Stepped) (w : ℕ) → l ≡ take (e - read) (drop read input) → length report ≡ report_room
      → Played (commands_of (line_frame l)) t ids days used report r ids' days' report'
      → Written out' written (printed r.answer (take r.report_len report')) out'' w
      → Passed m ids₀ days₀ input out r.table ids' days' r.used (e + 1) w out''
  turn l ids' days' report report' out'' r w is room s o =
      let ls = p.lines in
      let line = printed r.answer (take r.report_len report') in
      let q : e ≡ read + _ = (n.found h).0 in
      let size : length line ≡ 2 * r.report_len + 3 =
      printed_length _ _ ∙ ap (λ i. 2 * i + 3) (length-take-le r.report_len report' (omega (arith, s.fits, same_report t ids days used l report r ids' days' report' s))) in
      let all : printed_lines m (ls ++ (l ∷ [])) ≡ printed_lines m ls ++ line =
      printed_snoc m ls l _ (line_outcome_lem t ids days used l report r ids' days' report' s (played m ls) p.state room) in
      let book = book_bytes.played (commands_of (line_frame l)) t ids days used report r ids' days' report' p.sound s in
      let machine = sym s.moves ∙ line_next_lem t ids days used l report r ids' days' report' s (played m ls) p.state room in
      record {
        lines = ls ++ (l ∷ []);
        sound = s.sound p.sound;
        within = omega arith;
        text = rw is (next_joined input read e q h ls p.text);
        rest = rw is (next_whole input read e q h ls p.rest);
        chosen =
            p.chosen
            ∙ ap (λ more. ls ++ more) (fitting_more (view_of t ids days used) (length out - written) (whole_lines (drop read input)) l (whole_lines (drop (e + 1) input)) (rw is (next_line input read e q h)) (n.found h).1
            (line_outcome_lem t ids days used l report r ids' days' report' s (view_of t ids days used) refl room) (line_next_lem t ids days used l report r ids' days' report' s (view_of t ids days used) refl room) (length out - w) (omega (arith, size, o.behind)))
            ∙ sym (append_assoc ls (l ∷ []) (fitting (view_of r.table ids' days' r.used) (length out - w) (whole_lines (drop (e + 1) input))));
        state = line_next_lem t ids days used l report r ids' days' report' s (played m ls) p.state room ∙ sym (played_snoc m ls l);
        ids_are = more_over book_ids m ls l ids₀ p.ids_are machine book.ids_are;
        days_are = more_over book_days m ls l days₀ p.days_are machine book.days_are;
        room = omega (arith, fits, s.fits, size, o.behind);
        bytes = rw (o.bytes, p.bytes, all) (write_then out 0 (printed_lines m ls) line written (omega (arith, p.long)));
        long = ap length all ∙ length-append (printed_lines m ls) line ∙ omega (arith, p.long, o.behind);
      }

-- once no whole line or no room is left, the lines played are all that fit
pub all_chosen : (m : Machine) {ids₀ days₀ : List ℕ} (input out : List ℕ) (t : Table) (ids days : List ℕ) (used read written : ℕ) (out' : List ℕ) (p : Passed m ids₀ days₀ input out t ids days used read written out')
    → (whole_lines (drop read input) ≡ []) ⊎ (length out - written < answer_room) → p.lines ≡ fitting m (length out) (whole_lines input)
unfolding fitting
all_chosen m input out t ids days used read written out' p h =
    sym (p.chosen ∙ ap (λ more. p.lines ++ more) (⊎_elim (λ e. ap (fitting (view_of t ids days used) (length out - written)) e) (λ k. none_fitting (view_of t ids days used) (length out - written) (whole_lines (drop read input)) k) h) ∙ append-nil p.lines)

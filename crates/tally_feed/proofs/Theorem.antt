-- However the input is cut into reads, its lines are answered as if it had come at once. Assumes nothing.
use mathlib.Core.Path.{◌≡◌, refl, sym, ap, ap₂, ◌∙◌}
use mathlib.Core.Bool.{Bool, true, false, cond}
use mathlib.Core.Logic.{⊎_elim}
use mathlib.Core.List.{List, [], ◌∷◌, ◌++◌, append_assoc, append-nil, map-append}
use Prim.Native.Nat.{ℕ, ◌+◌, ◌≤◌}
use native.Mathlib.Omega.{arith}
use lib.Dec.{eqb}
use lib.ListN.{length, take, drop, length-drop, length-take}
use lib.Seq.{take-take}
use borrow.Author.Tests.{eqb-true}
use Rattle.rules.specs.Command.{Command}
use Rattle.rules.specs.Machine.{Machine}
use Rattle.table.specs.declared.Table.{Table}
use Rattle.ledger.specs.View.{view_of}
use Rattle.lines.specs.Text.{whole_lines, answer_room}
use Rattle.lines.proofs.Laws.{joined_none}
use Rattle.tally_kept.specs.Kept.{last_end}
use Rattle.play_lines.specs.Lines.{commands_in, line_outcomes, printed_all, printed_lines}
use Rattle.play_lines.specs.Program.{Reached}
use Rattle.play_lines.specs.Run.{Ran, RanIs}
use Rattle.play_lines.proofs.Sequence.{printed_append}
use Rattle.play_lines.proofs.Program.{start_reached, run_reached, wrote, front}
use Rattle.tally_feed.specs.Feed.{Fed, FedIs, text_of, left_of}
use Rattle.tally_feed.specs.Reads.{begun, input_lines, Reads, start, next, ReadsAnswered, InputAnswered, SameEnd, NoneLeft}
use Rattle.tally_feed.proofs.Alike.{commands_each, answered}
use Rattle.tally_feed.proofs.Begun.{all_begun, rest_begun, lines_on, begun_on, none_begun, none_take}
use Rattle.tally_feed.proofs.Keeping.{kept_same}

-- ---- a run over a text, and what is left of it

module _ (text : List ℕ) {t : Table} {ids days : List ℕ} {used : ℕ} {out ids' days' out' : List ℕ} {r : Ran} (room : answer_room ≤ length out)
    (p : RanIs t ids days used text out r ids' days' out') where
  -- where nothing was played, there is no whole line
  none : r.read ≡ 0 → whole_lines text ≡ []
  unfolding printed_lines printed_all line_outcomes
  none e =
      let q = p.passed in
      let no_line : q.lines ≡ [] = joined_none q.lines (ap length (q.text ∙ ap (λ (n : ℕ). take n text) e)) in
      let no_byte : r.written ≡ 0 = sym q.long ∙ ap (λ (ls : List (List ℕ)). length (printed_lines (view_of t ids days used) ls)) no_line in
      ⊎_elim (λ s. q.rest ∙ ap₂ (λ (a b : List (List ℕ)). a ++ b) no_line s) (λ s. absurd (omega (arith, s, no_byte, room))) p.stop

  left_lines : whole_lines (left_of text r.read) ≡ whole_lines (drop r.read text)
  left_lines = go (eqb r.read 0) refl
    where
      go : (b : Bool) → eqb r.read 0 ≡ b → whole_lines (cond b (take 1024 text) (drop r.read text)) ≡ whole_lines (drop r.read text)
      go true e =
          let z = eqb-true r.read 0 e in
          none_take text 1024 (none z) ∙ sym (ap (λ k. whole_lines (drop k text)) z ∙ none z)
      go false e = refl

  left_begun : take 1024 (begun (left_of text r.read)) ≡ take 1024 (begun text)
  left_begun = go (eqb r.read 0) refl
    where
      go : (b : Bool) → eqb r.read 0 ≡ b → take 1024 (begun (cond b (take 1024 text) (drop r.read text))) ≡ take 1024 (begun text)
      go true e =
          let h = none (eqb-true r.read 0 e) in
          ap (take 1024) (all_begun (take 1024 text) (none_take text 1024 h)) ∙ take-take 1024 1024 text (omega arith) ∙ ap (take 1024) (sym (all_begun text h))
      go false e = ap (take 1024) (rest_begun text p.passed.lines r.read p.passed.within p.passed.text p.passed.rest)

-- what is left stands in front of the buffer
pub fed_left : {s : Fed} {ids days buf : List ℕ} {n : ℕ} {out : List ℕ} {r : Fed} {ids' days' buf' out' : List ℕ} → FedIs s ids days buf n out r ids' days' buf' out'
    → take r.left buf' ≡ left_of (text_of s buf n) r.read
fed_left {s} {buf = buf} {n} {r = r} p =
    let text = text_of s buf n in
    ap₂ (λ (k : ℕ) (l : List ℕ). take k l) p.count p.bytes ∙ front buf (left_of text r.read) (go (eqb r.read 0))
  where
    go : (b : Bool) → length (cond b (take 1024 (take (s.left + n) buf)) (drop r.read (take (s.left + n) buf))) ≤ length buf
    go true = omega (arith, length-take 1024 (take (s.left + n) buf), length-take (s.left + n) buf)
    go false = omega (arith, length-drop r.read (take (s.left + n) buf), length-take (s.left + n) buf)

pub none_left : NoneLeft
none_left s ids days buf n out r ids' days' buf' out' p room e =
    let text = text_of s buf n in
    ap whole_lines (fed_left p) ∙ left_lines text room p.ran ∙ ap (λ k. whole_lines (drop k text)) e ∙ none text room p.ran e

-- ---- any number of calls

-- the lines played, of which the answer bytes are; with the whole lines that are left they hold what the input's hold, and the begun line is the same
pub record Sofar (m : Machine) (t : Table) (ids days : List ℕ) (used : ℕ) (left input answers : List ℕ) : Type 0 where
  pub lines : List (List ℕ)
  pub reached : Reached m lines t ids days used
  pub printed : answers ≡ printed_lines m lines
  pub same : commands_each (lines ++ whole_lines left) ≡ commands_each (whole_lines input)
  pub kept : take 1024 (begun left) ≡ take 1024 (begun input)

-- bytes read behind what is left, and behind the input
module _ (left input bytes : List ℕ) (kept : take 1024 (begun left) ≡ take 1024 (begun input)) where
  more_each : commands_each (whole_lines (begun left ++ bytes)) ≡ commands_each (whole_lines (begun input ++ bytes))
  more_each =
      sym (kept_same (begun left) bytes (none_begun left)).0 ∙ ap (λ (l : List ℕ). commands_each (whole_lines (l ++ bytes))) kept
      ∙ (kept_same (begun input) bytes (none_begun input)).0

  more_begun : take 1024 (begun (left ++ bytes)) ≡ take 1024 (begun (input ++ bytes))
  more_begun =
      ap (take 1024) (begun_on left bytes) ∙ sym (kept_same (begun left) bytes (none_begun left)).1 ∙ ap (λ (l : List ℕ). take 1024 (begun (l ++ bytes))) kept
      ∙ (kept_same (begun input) bytes (none_begun input)).1 ∙ ap (take 1024) (sym (begun_on input bytes))

  more_lines : (lines : List (List ℕ)) → commands_each (lines ++ whole_lines left) ≡ commands_each (whole_lines input) → commands_each (lines ++ whole_lines (left ++ bytes)) ≡ commands_each (whole_lines (input ++ bytes))
  more_lines lines same =
      let a = whole_lines (begun left ++ bytes) in
      ap (λ (ls : List (List ℕ)). commands_each (lines ++ ls)) (lines_on left bytes) ∙ ap commands_each (sym (append_assoc lines (whole_lines left) a))
      ∙ map-append commands_in (lines ++ whole_lines left) a ∙ ap₂ (λ (x y : List (List Command)). x ++ y) same more_each
      ∙ sym (map-append commands_in (whole_lines input) (whole_lines (begun input ++ bytes))) ∙ ap commands_each (sym (lines_on input bytes))

pub sofar : {m : Machine} {t : Table} {ids days : List ℕ} {used : ℕ} {left input answers : List ℕ} → Reads m t ids days used left input answers → Sofar m t ids days used left input answers
unfolding printed_lines printed_all line_outcomes
sofar {m} (start {l} g e) = record { lines = []; reached = start_reached l g e; printed = refl; same = refl; kept = refl }
sofar {m} (next {s} {ids} {days} {left} {input} {answers} {buf} {out} {ids'} {days'} {buf'} {out'} {n} {r} q bytes is room p) =
    let h = sofar q in
    let d = p.ran.passed in
    let text = text_of s buf n in
    record {
      lines = h.lines ++ d.lines;
      reached = run_reached p.ran h.lines h.reached;
      printed =
          ap₂ ◌++◌ h.printed (wrote p.ran ∙ ap (λ n. printed_lines n d.lines) h.reached.state) ∙ sym (printed_append m h.lines d.lines);
      same =
          ap (λ (ls : List (List ℕ)). commands_each ((h.lines ++ d.lines) ++ ls)) (ap whole_lines (fed_left p) ∙ left_lines text room p.ran)
          ∙ ap commands_each (append_assoc h.lines d.lines (whole_lines (drop r.read text)) ∙ ap (λ (ls : List (List ℕ)). h.lines ++ ls) (sym d.rest ∙ ap whole_lines is))
          ∙ more_lines left input bytes h.kept h.lines h.same;
      kept =
          ap (λ (l : List ℕ). take 1024 (begun l)) (fed_left p) ∙ left_begun text room p.ran ∙ ap (λ (l : List ℕ). take 1024 (begun l)) is
          ∙ more_begun left input bytes h.kept;
    }

pub reads_answered : ReadsAnswered
reads_answered m t ids days used left input answers q none =
    let h = sofar q in
    let all : commands_each h.lines ≡ commands_each (whole_lines input) =
    ap commands_each (sym (append-nil h.lines)) ∙ ap (λ (ls : List (List ℕ)). commands_each (h.lines ++ ls)) (sym none) ∙ h.same in
    (answered m h.lines (whole_lines input) answers all h.reached h.printed, ap (take 1024) (sym (all_begun left none)) ∙ h.kept)

-- ---- the end of the input

pub input_answered : InputAnswered
unfolding input_lines
input_answered m t ids days used left input answers q none =
    (reads_answered m t ids days used left (input ++ last_end (length (begun input))) answers q none).0

-- a begun line has a byte where its first bytes have one
last_same : (l : List ℕ) → last_end (length (take 1024 l)) ≡ last_end (length l)
unfolding last_end
last_same [] = refl
last_same (x ∷ l) = refl

pub same_end : SameEnd
same_end m t ids days used left input answers q none =
    sym (last_same left) ∙ ap (λ (l : List ℕ). last_end (length l)) (reads_answered m t ids days used left input answers q none).1 ∙ last_same (begun input)

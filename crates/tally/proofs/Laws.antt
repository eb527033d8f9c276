-- Laws of the buffer that is read into, and of a turn of the program. Assumes nothing.
use mathlib.Core.Path.{◌≡◌, refl, sym, ap, ap₂, subst, ◌∙◌}
use mathlib.Core.Bool.{Bool, true, false, cond, false≢true}
use mathlib.Core.Logic.{◌⊎◌, inl, inr}
use mathlib.Core.List.{List, [], ◌∷◌, ◌++◌, append_assoc, append-nil}
use Prim.Native.Nat.{ℕ, zero, suc, ◌+◌, ◌*◌, ◌-◌, ◌≤◌, ◌<◌}
use native.Mathlib.Omega.{arith}
use lib.Dec.{eqb}
use lib.ListN.{length, take, drop, length-take, length-drop, length-append}
use lib.Seq.{take-add, take_at, drop_at, take-take, length-take-le}
use borrow.Rule.Slice.PartMut.{put_mid}
use borrow.Author.Tests.{eq-eqb, eqb-true}
use Rattle.std.specs.Prelude.{Option, Some, None, Result, Ok, Err, is_err}
use Rattle.std.specs.Io.KnownBytes.{Consumes, Appends, IsAtEnd, ReadConsumes}
use Rattle.std.specs.declared.io.Error.{Error}
use Rattle.std.proofs.lemmas.Slice.{take-put_mid_below}
use Rattle.octets.specs.Octets.{write}
use Rattle.octets.proofs.Places.{take_none, write_is, write_length}
use Rattle.rules.specs.Machine.{empty}
use Rattle.ledger.specs.declared.Ledger.{Ledger}
use Rattle.ledger.specs.Promise.{SoundLedger}
use Rattle.ledger.specs.View.{ledger_view}
use Rattle.lines.specs.Text.{answer_room}
use Rattle.tally_kept.specs.Kept.{last_end}
use Rattle.tally_feed.specs.Feed.{Fed, FedIs}
use Rattle.tally_feed.specs.Reads as Fed
use Rattle.tally_feed.specs.Reads.{begun, Reads, start, next}
use Rattle.tally_feed.proofs.Theorem.{input_answered, same_end, none_left}
use Rattle.tally.specs.Progress.{Progress, started, written, broken, Ready, PlayedIs, PutIs, wrote, unwritten, AllAnswered, Over, WholeAnswered}
use Rattle.tally.specs.ReadOn.{ReadIs, Rests, ReadOnIs, stays, ends, reads, fails, none}

-- ---- the buffer

pub at_most : (n : ℕ) (l : List ℕ) → length (take n l) ≤ n
at_most zero l = omega arith
at_most (suc n) [] = omega arith
at_most (suc n) (x ∷ l) = omega (arith, at_most n l)

-- a read leaves what stands before it
pub front_stays : (buf rest : List ℕ) (left : ℕ) → left ≤ length buf → take left (take left buf ++ rest) ≡ take left buf
front_stays buf rest left h = take_at (take left buf) rest left (length-take-le left buf h)

-- what stands before the first byte written, and from it on
pub written_before : (l bs : List ℕ) (i : ℕ) → i + length bs ≤ length l → take i (write l i bs) ≡ take i l
written_before l bs i h = ap (take i) (write_is l i bs h) ∙ front_stays l (bs ++ drop (i + length bs) l) i (omega arith)

pub written_there : (l bs : List ℕ) (i : ℕ) → i + length bs ≤ length l → take (length bs) (drop i (write l i bs)) ≡ bs
written_there l bs i h =
    ap (λ (k : List ℕ). take (length bs) (drop i k)) (write_is l i bs h)
    ∙ ap (take (length bs)) (drop_at (take i l) (bs ++ drop (i + length bs) l) i (length-take-le i l (omega arith)))
    ∙ take_at bs (drop (i + length bs) l) (length bs) refl

pub last_within : (left n : ℕ) → left < n → left + length (last_end left) ≤ n
unfolding last_end
last_within zero n h = omega arith
last_within (suc k) n h = omega arith

pub none_given : {E : Type 0} {r : Result ℕ E} (known known' : Option (List ℕ)) (part : List ℕ) → ReadConsumes known known' r part → r ≡ Ok 0 → 0 < length part
    → Consumes known known' [] × IsAtEnd known'
none_given {E} {r} known known' part h e s =
    let k : Consumes known known' (take 0 part) × (0 ≡ 0 → 0 < length part → IsAtEnd known') = subst (λ (q : Result ℕ E). ReadConsumes known known' q part) e h in
    (subst (Consumes known known') (take_none part) k.0, k.1 refl s)

-- the input has ended: mid is the buffer after the read, which the last line's end is written to
pub read_last : {known known' : Option (List ℕ)} {buf buf' : List ℕ} {left n : ℕ} {said : Result ℕ Error} (mid : List ℕ) → left < length buf → length mid ≡ length buf → take left mid ≡ take left buf
    → buf' ≡ write mid left (last_end left) → n ≡ length (last_end left) → said ≡ Ok 0 → Consumes known known' [] × IsAtEnd known' → ReadIs known known' buf left (record { said = said; n = n; ended = true; failed = false }) buf'
read_last {buf = buf} {buf' = buf'} {left = left} {n = n} mid h l t e k z c =
    let room : left + length (last_end left) ≤ length buf = last_within left (length buf) h in
    let fits : left + length (last_end left) ≤ length mid = omega (arith, room, l) in
    record {
      long = ap length e ∙ write_length mid left (last_end left) ∙ l;
      stays = ap (take left) e ∙ written_before mid (last_end left) left fits ∙ t;
      within = omega (arith, k, room);
      failed_is = sym (ap is_err z);
      last = λ _. (z, ap₂ (λ (i : ℕ) (b : List ℕ). take i (drop left b)) k e ∙ written_there mid (last_end left) left fits);
      more = λ _ g. absurd (false≢true (sym g));
      taken = λ _ g. absurd (false≢true (sym g));
      none_left = λ _. c;
    }

-- a read behind the first `left` bytes left mid there
module _ (buf mid : List ℕ) (left : ℕ) (h : left < length buf) (m : length mid ≡ length buf - left) where
  stays_long : left ≡ length (take left buf)
  stays_long = sym (length-take-le left buf (omega arith))

  no_more : length (drop (length buf - left) (drop left buf)) ≡ 0
  no_more = omega (arith, length-drop (length buf - left) (drop left buf), length-drop left buf)

  pub read_long : length (put_mid left (length buf - left) buf mid) ≡ length buf
  read_long =
      let rest = mid ++ drop (length buf - left) (drop left buf) in
      let all : length (put_mid left (length buf - left) buf mid) ≡ length (take left buf) + length rest = length-append (take left buf) rest in
      omega (arith, all, length-append mid (drop (length buf - left) (drop left buf)), no_more, stays_long, m)

  pub read_stays : take left (put_mid left (length buf - left) buf mid) ≡ take left buf
  read_stays = take-put_mid_below left (length buf - left) buf mid left (omega arith) (omega arith)

  read_behind : take (length mid) (drop left (put_mid left (length buf - left) buf mid)) ≡ mid
  read_behind =
      ap (take (length mid)) (drop_at (take left buf) (mid ++ drop (length buf - left) (drop left buf)) left (sym stays_long))
      ∙ take_at mid (drop (length buf - left) (drop left buf)) (length mid) refl

  module _ {known known' : Option (List ℕ)} where
    pub read_failed : (x : Error)
        → ReadIs known known' buf left (record { said = Err x; n = 0; ended = false; failed = true }) (put_mid left (length buf - left) buf mid)
    read_failed x = record {
      long = read_long;
      stays = read_stays;
      within = omega arith;
      failed_is = refl;
      last = λ e. absurd (false≢true e);
      more = λ f g. absurd (false≢true (sym f));
      taken = λ f g. absurd (false≢true (sym f));
      none_left = λ e. absurd (false≢true e);
    }

    pub read_some : {n : ℕ} → 0 < n → n ≤ length mid → Consumes known known' (take n mid)
        → ReadIs known known' buf left (record { said = Ok n; n = n; ended = false; failed = false }) (put_mid left (length buf - left) buf mid)
    read_some {n} z k c = record {
      long = read_long;
      stays = read_stays;
      within = omega (arith, m);
      failed_is = refl;
      last = λ e. absurd (false≢true e);
      more = λ f g. (z, refl);
      taken = λ f g. subst (Consumes known known') (ap (take n) (sym read_behind) ∙ take-take n (length mid) (drop left (put_mid left (length buf - left) buf mid)) k) c;
      none_left = λ e. absurd (false≢true e);
    }

-- ---- known bytes

pub consumes_then : (a b c : Option (List ℕ)) (xs ys : List ℕ) → Consumes a b xs → Consumes b c ys → Consumes a c (xs ++ ys)
consumes_then None b c xs ys e f = tt
consumes_then (Some a) None c xs ys e f = absurd e
consumes_then (Some a) (Some b) None xs ys e f = absurd f
consumes_then (Some a) (Some b) (Some c) xs ys e f = e ∙ ap (λ (l : List ℕ). xs ++ l) f ∙ sym (append_assoc xs ys c)

pub appends_then : (a b c : Option (List ℕ)) (xs ys : List ℕ) → Appends a b xs → Appends b c ys → Appends a c (xs ++ ys)
appends_then None b c xs ys e f = tt
appends_then (Some a) None c xs ys e f = absurd e
appends_then (Some a) (Some b) None xs ys e f = absurd f
appends_then (Some a) (Some b) (Some c) xs ys e f = f ∙ ap (λ (l : List ℕ). l ++ ys) e ∙ append_assoc a xs ys

consumes_none : (a : Option (List ℕ)) → Consumes a a []
consumes_none None = tt
consumes_none (Some a) = refl

appends_none : (a : Option (List ℕ)) → Appends a a []
appends_none None = tt
appends_none (Some a) = sym (append-nil a)

-- ---- a call of `feed`

module _ {s : Fed} {ids days buf : List ℕ} {n : ℕ} {out : List ℕ} {f : Fed} {ids' days' buf' out' : List ℕ} (p : FedIs s ids days buf n out f ids' days' buf' out') where
  pub same_buf : length buf' ≡ length buf
  same_buf = ap length p.bytes ∙ write_length buf 0 _

  pub same_out : length out' ≡ length out
  same_out = ap length p.ran.passed.bytes ∙ write_length out 0 _

  pub waiting_within : f.waiting ≤ length out'
  waiting_within = omega (arith, p.ran.passed.room, same_out)

  -- what is left is of the text, which is of the buffer
  pub left_most : (f.left ≤ s.left + n) × (f.left ≤ length buf)
  left_most = go (eqb f.read 0) refl
    where
      go : (b : Bool) → eqb f.read 0 ≡ b → (f.left ≤ s.left + n) × (f.left ≤ length buf)
      go b e =
          let text = take (s.left + n) buf in
          let is : f.left ≡ length (cond b (take 1024 text) (drop f.read text)) = p.count ∙ ap (λ (c : Bool). length (cond c (take 1024 text) (drop f.read text))) e in
          let most : length (cond b (take 1024 text) (drop f.read text)) ≤ length text = within b in
          (omega (arith, is, most, at_most (s.left + n) buf), omega (arith, is, most, length-take (s.left + n) buf))
        where
          within : (c : Bool) → length (cond c (take 1024 (take (s.left + n) buf)) (drop f.read (take (s.left + n) buf))) ≤ length (take (s.left + n) buf)
          within true = omega (arith, length-take 1024 (take (s.left + n) buf))
          within false = omega (arith, length-drop f.read (take (s.left + n) buf))

  -- where no line was played, and where one was
  pub left_cut : f.read ≡ 0 → f.left ≤ 1024
  left_cut e =
      let text = take (s.left + n) buf in
      let is : f.left ≡ length (take 1024 text) = p.count ∙ ap (λ (b : Bool). length (cond b (take 1024 text) (drop f.read text))) (eq-eqb f.read 0 e) in
      omega (arith, is, length-take 1024 text)

  pub left_less : ¬ (f.read ≡ 0) → f.left < s.left + n
  left_less h = go (eqb f.read 0) refl
    where
      go : (b : Bool) → eqb f.read 0 ≡ b → f.left < s.left + n
      go true e = absurd (h (eqb-true f.read 0 e))
      go false e =
          let text = take (s.left + n) buf in
          let is : f.left ≡ length (drop f.read text) = p.count ∙ ap (λ (b : Bool). length (cond b (take 1024 text) (drop f.read text))) e in
          omega (arith, is, h, length-drop f.read text, p.ran.passed.within, at_most (s.left + n) buf)

-- ---- a turn

-- It goes on from what reads left; they are all that was taken of the input, and their answers are all that was written. Said of what the input had left and the
-- output held at the beginning and now, where that is known
pub record Going (left₀ left held₀ held : Option (List ℕ)) (p : Progress) (ids days buf : List ℕ) : Type 0 where
  pub ready : Ready p ids days buf
  pub taken : p.ended ≡ false → Consumes left₀ left (ready.fed.input ++ take p.n (drop p.fed.left buf))
  pub all_taken : (e : p.ended ≡ true) → Consumes left₀ left (ready.closed e).input × IsAtEnd left
  pub given : Appends held₀ held ready.fed.answers

-- it is over
pub record Stopped (left₀ left held₀ held : Option (List ℕ)) (p : Progress) : Type 0 where
  pub over : p.over ≡ true
  pub whole : (p.failed ≡ true) ⊎ WholeAnswered left₀ left held₀ held p.fed.table p.fed.used

pub is_over : {left₀ left held₀ held : Option (List ℕ)} {p : Progress} → Stopped left₀ left held₀ held p → Over p
is_over {left₀} {left} {held₀} {held} {p} s = record { over = s.over; why = go s.whole }
  where
    go : (p.failed ≡ true) ⊎ WholeAnswered left₀ left held₀ held p.fed.table p.fed.used → (p.failed ≡ true) ⊎ AllAnswered p.fed.table p.fed.used
    go (inl e) = inl e
    go (inr w) = inr (w.ids, w.days, w.input, w.answers, w.answered)

pub record Standing (left₀ left held₀ held : Option (List ℕ)) (p : Progress) (ids days buf : List ℕ) : Type 0 where
  pub going : p.over ≡ false → Going left₀ left held₀ held p ids days buf
  pub stopped : p.over ≡ true → Stopped left₀ left held₀ held p

-- each turn makes it less: a read is made, or less is left, or it is over
abbrev undone : Bool → ℕ
undone true = 0
undone false = 1

abbrev pub weight : Progress → ℕ
weight p = p.reads * 65538 + (p.fed.left + p.n) + undone p.over

pub from_fresh : (l : Ledger) {p : Progress} {buf : List ℕ} (left held : Option (List ℕ)) → SoundLedger l → ledger_view l ≡ empty → p ≡ started l.table l.book.used
    → Standing left left held held p l.book.ids l.book.days buf
from_fresh l {p} {buf} left held g e s =
    subst (λ (q : Progress). Standing left left held held q l.book.ids l.book.days buf) (sym s)
    (
    record {
      going = λ _. record {
        ready = record {
          fed = record { input = []; answers = []; reads = none buf; none_waits = refl };
          within = omega arith;
          closed = λ h. absurd (false≢true h);
        };
        taken = λ _. subst (Consumes left left) (sym (take_none (drop 0 buf))) (consumes_none left);
        all_taken = λ h. absurd (false≢true h);
        given = appends_none held;
      };
      stopped = λ h. absurd (false≢true h);
    }
    )
  where
    none : (b : List ℕ) → Reads empty l.table l.book.ids l.book.days l.book.used (take 0 b) [] []
    none [] = start g e
    none (x ∷ b) = start g e

-- said of the book of one record, it is said of that of the same
pub same_book : {left₀ left held₀ held : Option (List ℕ)} {p : Progress} {buf : List ℕ} (k l : Ledger) → k ≡ l → Standing left₀ left held₀ held p l.book.ids l.book.days buf
    → Standing left₀ left held₀ held p k.book.ids k.book.days buf
same_book {left₀} {left} {held₀} {held} {p} {buf} k l e = subst (λ (u : Ledger). Standing left₀ left held₀ held p u.book.ids u.book.days buf) (sym e)

-- what `play` leaves of q
abbrev pub after : Progress → Fed → Progress
after q f = record { fed = f; n = 0; ended = q.ended; over = q.over; failed = q.failed; reads = q.reads }

module _ {left₀ left held₀ held : Option (List ℕ)} {q : Progress} {ids days buf out : List ℕ} {f : Fed} {ids' days' buf' out' : List ℕ} (on : q.over ≡ false)
    (going : Going left₀ left held₀ held q ids days buf) (long : length buf ≡ 65536) (room : answer_room ≤ length out)
    (p : FedIs q.fed ids days buf q.n out f ids' days' buf' out') where
  pub record Turned (s : Progress) (b : List ℕ) (left' held' : Option (List ℕ)) : Type 0 where
    pub stands : Standing left₀ left' held₀ held' s ids' days' b
    pub less : weight s < weight q
    pub same : length b ≡ 65536

  abbrev g : Ready q ids days buf
  g = going.ready

  abbrev input : List ℕ
  input = g.fed.input ++ take q.n (drop q.fed.left buf)

  abbrev answers : List ℕ
  answers = g.fed.answers ++ take f.waiting out'

  read_so_far : Reads empty f.table ids' days' f.used (take f.left buf') input answers
  read_so_far = next g.fed.reads (take q.n (drop q.fed.left buf)) (take-add q.fed.left q.n buf) room p

  -- the answers are written, and what is left stays, whatever is read behind it
  fed_again : {b : List ℕ} → take f.left b ≡ take f.left buf' → Fed.Ready empty (written (after q f)).fed ids' days' b
  fed_again e = record {
    input = input;
    answers = answers;
    reads = subst (λ (l : List ℕ). Reads empty f.table ids' days' f.used l input answers) (sym e) read_so_far;
    none_waits = refl;
  }

  buf_long : length buf' ≡ 65536
  buf_long = same_buf p ∙ long

  broken_stands : {s : Progress} {left' held' : Option (List ℕ)} → s.over ≡ true → s.failed ≡ true → (b : List ℕ) → Standing left₀ left' held₀ held' s ids' days' b
  broken_stands o h b = record { going = λ e. absurd (false≢true (sym e ∙ o)); stopped = λ e. record { over = o; whole = inl h } }

  turn_on : {s : Progress} {b : List ℕ} {left' held' : Option (List ℕ)} → Appends held held' (take f.waiting out') → ReadOnIs (written (after q f)) buf' left s b left'
      → Turned s b left' held'
  unfolding fed_again
  turn_on a (stays (inl e)) = absurd (false≢true (sym on ∙ e))
  turn_on {held' = held'} a (stays (inr h)) = record {
    stands = record {
      going = λ _. record {
        ready = record {
          fed = fed_again refl;
          within = omega (arith, (left_most p).1, same_buf p);
          closed = λ e. let c = g.closed e in record { input = c.input; is = append-nil input ∙ c.is };
        };
        taken = λ e. subst (Consumes left₀ left) (sym (append-nil input)) (going.taken e);
        all_taken = going.all_taken;
        given = appends_then held₀ held held' g.fed.answers (take f.waiting out') going.given a;
      };
      stopped = λ e. absurd (false≢true (sym on ∙ e));
    };
    less = omega (arith, left_less p h, ap undone on);
    same = buf_long;
  }
  turn_on {held' = held'} a (ends e z h) =
      let c = g.closed h in
      let none = none_left q.fed ids days buf q.n out f ids' days' buf' out' p room z in
      record {
        stands = record {
          going = λ w. absurd (false≢true (sym w));
          stopped = λ _. record {
            over = refl;
            whole = inr (
                record {
                  ids = ids';
                  days = days';
                  input = c.input;
                  answers = answers;
                  answered = input_answered empty f.table ids' days' f.used (take f.left buf') c.input answers
                      (subst (λ (i : List ℕ). Reads empty f.table ids' days' f.used (take f.left buf') i answers) c.is read_so_far) none;
                  read = (going.all_taken h).0;
                  at_end = (going.all_taken h).1;
                  written = appends_then held₀ held held' g.fed.answers (take f.waiting out') going.given a;
                }
                );
          };
        };
        less = omega (arith, (left_most p).0, ap undone on);
        same = buf_long;
      }
  turn_on {left' = left'} {held' = held'} a (reads {r = r} {buf' = b} e z n h i k) =
      let none = none_left q.fed ids days buf q.n out f ids' days' buf' out' p room z in
      let end : last_end f.left ≡ last_end (length (begun input)) =
      ap last_end (sym (length-take-le f.left buf' (omega (arith, (left_most p).1, same_buf p))))
      ∙ same_end empty f.table ids' days' f.used (take f.left buf') input answers read_so_far none in
      record {
        stands = record {
          going = λ _. record {
            ready = record {
              fed = fed_again i.stays;
              within = omega (arith, i.within, i.long);
              closed = λ w. record { input = input; is = ap (λ (l : List ℕ). input ++ l) ((i.last w).1 ∙ end) };
            };
            taken = λ w. consumes_then left₀ left left' input (take r.n (drop f.left b)) (going.taken n) (i.taken k w);
            all_taken = λ w. (
              subst (Consumes left₀ left') (append-nil input) (consumes_then left₀ left left' input [] (going.taken n) (i.none_left w).0),
              (i.none_left w).1,
            );
            given = appends_then held₀ held held' g.fed.answers (take f.waiting out') going.given a;
          };
          stopped = λ w. absurd (false≢true w);
        };
        less = omega (arith, h, i.within, buf_long, ap undone on);
        same = i.long ∙ buf_long;
      }
  turn_on a (fails {buf' = b} h k) = record { stands = broken_stands refl refl b; less = omega (arith, (left_most p).0, ap undone on); same = h.long ∙ buf_long }
  turn_on a (none h) = record { stands = broken_stands refl refl buf'; less = omega (arith, (left_most p).0, ap undone on); same = buf_long }

  turn_off : {s : Progress} {b : List ℕ} {left' held' : Option (List ℕ)} → ReadOnIs (broken (after q f)) buf' left s b left' → Turned s b left' held'
  turn_off (stays h) = record { stands = broken_stands refl refl buf'; less = omega (arith, (left_most p).0, ap undone on); same = buf_long }
  turn_off (ends e z h) = absurd (false≢true (sym e))
  turn_off (reads e z n h i k) = absurd (false≢true (sym e))
  turn_off (fails {buf' = b} h k) = record { stands = broken_stands refl refl b; less = omega (arith, (left_most p).0, ap undone on); same = h.long ∙ buf_long }
  turn_off (none h) = record { stands = broken_stands refl refl buf'; less = omega (arith, (left_most p).0, ap undone on); same = buf_long }

  rest_on : Rests (written (after q f)) buf'
  rest_on = record { none_read = refl; none_waits = λ _. refl; room = λ _ z. omega (arith, left_cut p z, buf_long) }

  rest_off : Rests (broken (after q f)) buf'
  rest_off = record { none_read = refl; none_waits = λ e. absurd (false≢true (sym e)); room = λ e. absurd (false≢true (sym e)) }

-- what `play` left of q, its answers written or not
module _ {left₀ left held₀ held : Option (List ℕ)} {q : Progress} {ids days buf out : List ℕ} {m : Progress} {ids' days' buf' out' : List ℕ} {r : Progress} {held' : Option (List ℕ)}
    (on : q.over ≡ false) (g : Going left₀ left held₀ held q ids days buf) (long : length buf ≡ 65536) (room : answer_room ≤ length out)
    (p : PlayedIs q ids days buf out m ids' days' buf' out') where
  pub rests : PutIs m out' held held' r → Rests r buf'
  rests (wrote e a) = subst (λ (x : Progress). Rests x buf') (sym (e ∙ ap written p.rest)) (rest_on on g long room p.fed)
  rests (unwritten e) = subst (λ (x : Progress). Rests x buf') (sym (e ∙ ap broken p.rest)) (rest_off on g long room p.fed)

  pub turned : {s : Progress} {b : List ℕ} {left' : Option (List ℕ)} → PutIs m out' held held' r → ReadOnIs r buf' left s b left' → Turned on g long room p.fed s b left' held'
  turned {s} {b} {left'} (wrote e a) h =
      turn_on on g long room p.fed a (subst (λ (x : Progress). ReadOnIs x buf' left s b left') (e ∙ ap written p.rest) h)
  turned {s} {b} {left'} (unwritten e) h = turn_off on g long room p.fed (subst (λ (x : Progress). ReadOnIs x buf' left s b left') (e ∙ ap broken p.rest) h)

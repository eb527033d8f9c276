-- Laws of begun lines: a piece more, and pieces behind pieces. Assumes nothing.
use mathlib.Core.Path.{◌≡◌, refl, sym, ap, ap₂, ◌∙◌}
use mathlib.Core.Bool.{Bool, true, false, cond}
use mathlib.Core.List.{List, [], ◌∷◌, ◌++◌, append_assoc, append-nil}
use Prim.Native.Nat.{ℕ, zero, suc, ◌+◌, ◌-◌, ◌<◌, ◌≤◌, min}
use native.Mathlib.Omega.{arith}
use native.Mathlib.Decide.{dec_le}
use native.Mathlib.Numerals.{add-one}
use lib.ListN.{length, take, drop, get_or, length-append, length-take, length-drop, take-append-drop}
use lib.Seq.{length-take-le, take_all, take-add, take-append-add, drop-cons}
use lib.Dec.{eqb}
use Rattle.memchr.specs.Find.{is_byte, places_from, places_between}
use Rattle.octets.specs.Octets.{write}
use Rattle.octets.proofs.Places.{take_none, write_then}
use Rattle.octet_writer.specs.Written.{Written}
use Rattle.lines.specs.Text.{line_length}
use Rattle.lines.proofs.Laws.{end_at}
use Rattle.frame_echo.specs.Printed.{is_line, echoed, grown, begun, printed, last, EchoIs}

-- ---- how long

grown_most : (line : List ℕ) (b : ℕ) → (length (grown line b) ≤ 705) × (length (grown line b) ≤ length line + 1)
unfolding grown
grown_most line b =
    let l = length-append line (b ∷ []) in
    simp length-take (omega (arith, l), omega (arith, l))

echo_most : (line : List ℕ) → length (echoed line) ≤ length line + 1
unfolding echoed
echo_most line =
    simp length-append (elim (is_line line) as (λ (t : Bool). length (cond t line []) + 1 ≤ length line + 1) [ true ↦ omega arith | false ↦ omega arith ])

pub begun_most : (line t : List ℕ) → length line ≤ 705 → length (begun line t) ≤ 705
unfolding begun
begun_most line [] h = h
begun_most line (b ∷ t) h =
    begun_most (cond (eqb b 10) [] (grown line b)) t
    (elim (eqb b 10) as (λ (q : Bool). length (cond q [] (grown line b)) ≤ 705) [ true ↦ omega arith | false ↦ (grown_most line b).0 ])

printed_most : (line t : List ℕ) → length (printed line t) + length (begun line t) ≤ length line + length t
unfolding begun printed
printed_most line [] = omega arith
printed_most line (b ∷ t) =
    let r = printed_most (cond (eqb b 10) [] (grown line b)) t in
    let a = length-append (cond (eqb b 10) (echoed line) []) (printed (cond (eqb b 10) [] (grown line b)) t) in
    let h : length (cond (eqb b 10) (echoed line) []) + length (cond (eqb b 10) [] (grown line b)) ≤ length line + 1 =
    elim (eqb b 10) as (λ (q : Bool). length (cond q (echoed line) []) + length (cond q [] (grown line b)) ≤ length line + 1)
    [ true ↦ omega (arith, echo_most line) | false ↦ omega (arith, (grown_most line b).1) ]
    in
    omega arith

-- so what came of some bytes behind a begun line has room
pub echo_fits : (line bytes o p l : List ℕ) (end : ℕ) → EchoIs line bytes 0 o p l end → end + length l ≤ length line + length bytes
echo_fits line bytes o p l end e = omega (arith, ap length e.begun_is, e.end_is, printed_most line bytes)

pub last_most : (line : List ℕ) → length (last line) ≤ length line + 1
unfolding last
last_most [] = omega arith
last_most (b ∷ line) = echo_most (b ∷ line)

-- ---- bytes behind bytes

pub begun_then : (line t u : List ℕ) → begun line (t ++ u) ≡ begun (begun line t) u
unfolding begun
begun_then line [] u = refl
begun_then line (b ∷ t) u = begun_then (cond (eqb b 10) [] (grown line b)) t u

pub printed_then : (line t u : List ℕ) → printed line (t ++ u) ≡ printed line t ++ printed (begun line t) u
unfolding begun printed
printed_then line [] u = refl
printed_then line (b ∷ t) u =
    ap (λ (l : List ℕ). cond (eqb b 10) (echoed line) [] ++ l) (printed_then (cond (eqb b 10) [] (grown line b)) t u)
    ∙ sym (append_assoc (cond (eqb b 10) (echoed line) []) _ _)

pub echo_none : (line out : List ℕ) → EchoIs line [] 0 out out line 0
unfolding begun printed write
echo_none line out = record { begun_is = refl; end_is = refl; out_is = refl }

echo_then : (line t u o p q l m : List ℕ) (e e' : ℕ) → EchoIs line t 0 o p l e → EchoIs l u e p q m e' → EchoIs line (t ++ u) 0 o q m e'
echo_then line t u o p q l m e e' x y =
    let f : printed line t ++ printed l u ≡ printed line (t ++ u) = ap (λ (s : List ℕ). printed line t ++ printed s u) x.begun_is ∙ sym (printed_then line t u) in
    record {
      begun_is = y.begun_is ∙ ap (λ (s : List ℕ). begun s u) x.begun_is ∙ sym (begun_then line t u);
      end_is = omega (arith, x.end_is, y.end_is, ap length (sym f), length-append (printed line t) (printed l u));
      out_is = y.out_is ∙ ap (λ (s : List ℕ). write s e (printed l u)) x.out_is ∙ write_then o 0 (printed line t) (printed l u) e x.end_is ∙ ap (write o 0) f;
    }

-- ---- a piece of a line

pub take_cut : (n : ℕ) (a t : List ℕ) → take n (take n a ++ t) ≡ take n (a ++ t)
take_cut zero a t = take_none (take zero a ++ t) ∙ sym (take_none (a ++ t))
take_cut (suc n) [] t = refl
take_cut (suc n) (x ∷ a) t = ap (λ (l : List ℕ). x ∷ l) (take_cut n a t)

-- as much of a piece as has room
pub grown_by : (line piece : List ℕ) (room n : ℕ) → room + length line ≡ 705 → n ≡ min (length piece) room → line ++ take n piece ≡ take 705 (line ++ piece)
grown_by line piece room n h e = go (dec_le (length piece) room)
  where
    go : Dec (length piece ≤ room) → line ++ take n piece ≡ take 705 (line ++ piece)
    go (yes l) =
        ap (λ (t : List ℕ). line ++ t) (take_all n piece (omega arith))
        ∙ sym (take_all 705 (line ++ piece) (omega (arith, length-append line piece)))
    go (no l) =
        let k : length line + n ≡ 705 = omega arith in
        rw k at (sym (take-append-add line piece n))

pub cut_most : (line piece : List ℕ) → length (take 705 (line ++ piece)) ≤ length line + length piece
cut_most line piece = simp length-take (omega (arith, length-append line piece))

-- what comes before the first line end belongs to the begun line
begun_piece : (line s : List ℕ) (n : ℕ) → length line ≤ 705 → n ≤ line_length s → begun line (take n s) ≡ take 705 (line ++ take n s)
unfolding begun grown line_length
begun_piece line s zero h l = rw (take_none s, append-nil line) (sym (take_all 705 line h))
begun_piece line [] (suc n) h l = absurd (omega arith)
begun_piece line (b ∷ t) (suc n) h l = go (eqb b 10) l (begun_piece (grown line b) t n (grown_most line b).0)
  where
    go : (q : Bool) → suc n ≤ cond q 0 (suc (line_length t)) → (n ≤ line_length t → begun (grown line b) (take n t) ≡ take 705 (grown line b ++ take n t))
        → begun (cond q [] (grown line b)) (take n t) ≡ take 705 (line ++ (b ∷ take n t))
    go true m r = absurd (omega arith)
    go false m r =
        r (omega arith)
        ∙ take_cut 705 (line ++ (b ∷ [])) (take n t)
        ∙ ap (take 705) (append_assoc line (b ∷ []) (take n t))

-- and prints nothing
printed_piece : (line s : List ℕ) (n : ℕ) → n ≤ line_length s → printed line (take n s) ≡ []
unfolding printed line_length
printed_piece line s zero l = rw (take_none s) refl
printed_piece line [] (suc n) l = absurd (omega arith)
printed_piece line (b ∷ t) (suc n) l = go (eqb b 10) l (printed_piece (grown line b) t n)
  where
    go : (q : Bool) → suc n ≤ cond q 0 (suc (line_length t)) → (n ≤ line_length t → printed (grown line b) (take n t) ≡ [])
        → cond q (echoed line) [] ++ printed (cond q [] (grown line b)) (take n t) ≡ []
    go true m r = absurd (omega arith)
    go false m r = r (omega arith)

begun_end : (line : List ℕ) → begun line (10 ∷ []) ≡ []
unfolding begun
begun_end line = refl

printed_end : (line : List ℕ) → printed line (10 ∷ []) ≡ echoed line
unfolding printed
printed_end line = append-nil (echoed line)

-- a line end behind it: the whole line is echoed
echo_line : (line s out out' line' : List ℕ) (at end : ℕ) → length line ≤ 705 → line_length s < length s
    → Written out at (echoed (take 705 (line ++ take (line_length s) s))) out' end → line' ≡ [] → EchoIs line (take (suc (line_length s)) s) at out out' line' end
echo_line line s out out' line' at end h l w n =
    let k = line_length s in
    let g : begun line (take (suc k) s) ≡ [] = ap (begun line) (end_at s l) ∙ begun_then line (take k s) (10 ∷ []) ∙ begun_end (begun line (take k s)) in
    let f : printed line (take (suc k) s) ≡ echoed (take 705 (line ++ take k s)) =
    ap (printed line) (end_at s l)
    ∙ printed_then line (take k s) (10 ∷ [])
    ∙ ap₂ ◌++◌ (printed_piece line s k (omega arith)) (printed_end (begun line (take k s)) ∙ ap echoed (begun_piece line s k h (omega arith)))
    in
    record { begun_is = n ∙ sym g; end_is = rw f w.behind; out_is = rw f w.bytes }

-- no line end behind it
echo_piece : (line s out line' : List ℕ) (at : ℕ) → length line ≤ 705 → length s ≤ line_length s → line' ≡ take 705 (line ++ s) → EchoIs line s at out out line' at
unfolding write
echo_piece line s out line' at h l e =
    let all : take (length s) s ≡ s = take_all (length s) s (omega arith) in
    let g : begun line s ≡ take 705 (line ++ s) = rw all at (begun_piece line s (length s) h l) in
    let f : printed line s ≡ [] = rw all at (printed_piece line s (length s) l) in
    record { begun_is = e ∙ sym g; end_is = rw f (omega arith); out_is = rw f refl }

-- ---- the line ends of a text from a place on

abbrev pub ends : List ℕ → ℕ → List ℕ
ends text from = places_between (is_byte 10) text from (length text)

-- the next of them ends the line that begins there, and the others are those behind it
pub record EndFound (text : List ℕ) (from end : ℕ) (rest : List ℕ) : Type 0 where
  pub end_is : end ≡ from + line_length (drop from text)
  pub inside : end < length text
  pub rest_is : rest ≡ ends text (end + 1)

drop_next : (s : List ℕ) (i : ℕ) → i < length s → drop i s ≡ get_or s i 0 ∷ drop (i + 1) s
drop_next s i h = rw (add-one i) (drop-cons s i 0 h)

end_found_lem : (s : List ℕ) (i n e : ℕ) (rest : List ℕ) → i + n ≡ length s → places_from (is_byte 10) s i n ≡ e ∷ rest → EndFound s i e rest
unfolding places_from line_length
end_found_lem s i zero e rest h q = let z = ap length q in absurd (omega arith)
end_found_lem s i (suc n) e rest h q = go (eqb (get_or s i 0) 10) (ap line_length (drop_next s i (omega arith))) q (end_found_lem s (i + 1) n e rest (omega arith))
  where
    go : (t : Bool) → line_length (drop i s) ≡ cond t 0 (suc (line_length (drop (i + 1) s)))
        → cond t (i ∷ places_from (is_byte 10) s (i + 1) n) (places_from (is_byte 10) s (i + 1) n) ≡ e ∷ rest
        → (places_from (is_byte 10) s (i + 1) n ≡ e ∷ rest → EndFound s (i + 1) e rest) → EndFound s i e rest
    go true l p r =
        let f : i ≡ e = ap (λ (t : List ℕ). get_or t 0 0) p in
        let m : n ≡ length s - (i + 1) = omega arith in
        record {
          end_is = omega arith;
          inside = omega arith;
          rest_is = sym (ap (drop 1) p) ∙ ap (places_from (is_byte 10) s (i + 1)) m ∙ ap (λ (k : ℕ). ends s (k + 1)) f;
        }
    go false l p r = let k = r p in record { end_is = omega (arith, k.end_is, l); inside = k.inside; rest_is = k.rest_is }

pub end_found : (text : List ℕ) (from end : ℕ) (rest : List ℕ) → from ≤ length text → end ∷ rest ≡ ends text from → EndFound text from end rest
end_found text from end rest h e = end_found_lem text from (length text - from) end rest (omega arith) (sym e)

no_end_lem : (s : List ℕ) (i n : ℕ) → i + n ≡ length s → places_from (is_byte 10) s i n ≡ [] → length (drop i s) ≤ line_length (drop i s)
unfolding places_from line_length
no_end_lem s i zero h q = omega (arith, length-drop i s)
no_end_lem s i (suc n) h q = go (eqb (get_or s i 0) 10) (ap line_length (drop_next s i (omega arith))) q (no_end_lem s (i + 1) n (omega arith))
  where
    go : (t : Bool) → line_length (drop i s) ≡ cond t 0 (suc (line_length (drop (i + 1) s)))
        → cond t (i ∷ places_from (is_byte 10) s (i + 1) n) (places_from (is_byte 10) s (i + 1) n) ≡ []
        → (places_from (is_byte 10) s (i + 1) n ≡ [] → length (drop (i + 1) s) ≤ line_length (drop (i + 1) s)) → length (drop i s) ≤ line_length (drop i s)
    go true l p r = let z = ap length p in absurd (omega arith)
    go false l p r = omega (arith, l, r p, length-drop i s, length-drop (i + 1) s)

-- ---- a text, line by line

-- what is echoed of the text before the place `from`, and the line ends from there on
pub record Passed (text line : List ℕ) (from : ℕ) (rest out out' line' : List ℕ) (end : ℕ) : Type 0 where
  pub inside : from ≤ length text
  pub rest_is : rest ≡ ends text from
  pub echo : EchoIs line (take from text) 0 out out' line' end

-- nothing yet
pub none_passed : {text line out rest : List ℕ} {at : ℕ} → rest ≡ ends text 0 → at ≡ 0 → Passed text line 0 rest out out line at
none_passed {text = text} {line = line} {out = out} r e = record { inside = omega arith; rest_is = r; echo = rw (take_none text, e) (echo_none line out) }

-- the next line stands in the text, and has room
pub record LineFits (text line l : List ℕ) (from end e : ℕ) : Type 0 where
  pub ahead : from ≤ end
  pub inside : end < length text
  pub room : e + (length l + length (take (end - from) (drop from text)) + 1) ≤ length line + length text

pub line_fits : (text line out o l rest : List ℕ) (from end e : ℕ) → Passed text line from (end ∷ rest) out o l e → LineFits text line l from end e
line_fits text line out o l rest from end e c =
    let f = end_found text from end rest c.inside c.rest_is in
    let d = length-drop from text in
    let k = length-take-le (end - from) (drop from text) (omega (arith, d, f.inside)) in
    record {
      ahead = omega (arith, f.end_is);
      inside = f.inside;
      room = omega (arith, f.end_is, f.inside, k, length-take-le from text c.inside, echo_fits line (take from text) out o l e c.echo);
    }

-- one line more
pub line_passed : (text line out o p l m rest : List ℕ) (from end e e' : ℕ) → length l ≤ 705 → Passed text line from (end ∷ rest) out o l e
    → Written o e (echoed (take 705 (l ++ take (end - from) (drop from text)))) p e' → m ≡ [] → Passed text line (end + 1) rest out p m e'
line_passed text line out o p l m rest from end e e' h c w n =
    let f = end_found text from end rest c.inside c.rest_is in
    let k : line_length (drop from text) ≡ end - from = omega (arith, f.end_is) in
    let q : from + suc (line_length (drop from text)) ≡ end + 1 = omega (arith, f.end_is) in
    let one = echo_line l (drop from text) o p m e e' h (omega (arith, f.end_is, f.inside, length-drop from text)) (rw (← k) at w) n in
    let both = rw (← take-add from (suc (line_length (drop from text))) text, q) at (echo_then line (take from text) (take (suc (line_length (drop from text))) (drop from text)) out o p l m e e' c.echo one) in
    record { inside = omega (arith, f.inside); rest_is = f.rest_is; echo = both }

-- and what is behind the last end
pub text_passed : (text line out o l m : List ℕ) (from e : ℕ) → length l ≤ 705 → Passed text line from [] out o l e → m ≡ take 705 (l ++ take (length text - from) (drop from text))
    → EchoIs line text 0 out o m e
text_passed text line out o l m from e h c n =
    let all : take (length text - from) (drop from text) ≡ drop from text = take_all (length text - from) (drop from text) (omega (arith, length-drop from text)) in
    let one = echo_piece l (drop from text) o m e h (no_end_lem text from (length text - from) (omega (arith, c.inside)) (sym c.rest_is)) (rw all at n) in
    rw (take-append-drop from text) at (echo_then line (take from text) (drop from text) out o o l m e e c.echo one)

-- ---- the last line

pub last_none : (line : List ℕ) → length line ≡ 0 → last line ≡ []
unfolding last
last_none [] e = refl
last_none (b ∷ line) e = absurd (omega arith)

pub last_some : (line : List ℕ) → (length line ≡ 0 → ⊥) → last line ≡ echoed line
unfolding last
last_some [] n = absurd (n refl)
last_some (b ∷ line) n = refl

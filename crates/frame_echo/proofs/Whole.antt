-- An input that is read to its end, read by read. Assumes nothing.
use mathlib.Core.Path.{◌≡◌, refl, sym, ap, subst, ◌∙◌}
use mathlib.Core.List.{List, [], ◌++◌, append_assoc, append-nil}
use Prim.Native.Nat.{ℕ, ◌+◌, ◌≤◌}
use native.Mathlib.Omega.{arith}
use lib.ListN.{length, take, drop}
use lib.Seq.{take_at}
use Rattle.std.specs.Prelude.{Option, Some, None, Result, Ok, Err, is_ok, OnOk}
use mathlib.Core.Bool.{true}
use Rattle.std.proofs.lemmas.Bool.{false≢true}
use Rattle.std.specs.Io.KnownBytes.{Consumes, Appends, IsAtEnd}
use Rattle.octets.specs.Octets.{write}
use Rattle.octets.proofs.Places.{take_none, write_is}
use Rattle.frame_echo.specs.Printed.{begun, printed, last, EchoIs}
use Rattle.frame_echo.specs.Lines.{InputEchoed}
use Rattle.frame_echo.proofs.Begun.{begun_then, printed_then, last_most}

-- ---- known bytes

consumes_then : (a b c : Option (List ℕ)) (xs ys : List ℕ) → Consumes a b xs → Consumes b c ys → Consumes a c (xs ++ ys)
consumes_then None b c xs ys e f = tt
consumes_then (Some a) None c xs ys e f = absurd e
consumes_then (Some a) (Some b) None xs ys e f = absurd f
consumes_then (Some a) (Some b) (Some c) xs ys e f = e ∙ ap (λ (l : List ℕ). xs ++ l) f ∙ sym (append_assoc xs ys c)

appends_then : (a b c : Option (List ℕ)) (xs ys : List ℕ) → Appends a b xs → Appends b c ys → Appends a c (xs ++ ys)
appends_then None b c xs ys e f = tt
appends_then (Some a) None c xs ys e f = absurd e
appends_then (Some a) (Some b) None xs ys e f = absurd f
appends_then (Some a) (Some b) (Some c) xs ys e f = f ∙ ap (λ (l : List ℕ). l ++ ys) e ∙ append_assoc a xs ys

consumes_none : (a : Option (List ℕ)) → Consumes a a []
consumes_none None = tt
consumes_none (Some a) = refl

appends_none : (a : Option (List ℕ)) → Appends a a []
appends_none None = tt
appends_none (Some a) = sym (append-nil a)

-- ---- a result, and one whose error was mapped

-- what is so on `Ok`, of a result that is
pub on_ok : {T E P : Type 0} (r : Result T E) → is_ok r ≡ true → OnOk r P → P
on_ok (Ok x) e h = h
on_ok (Err x) e h = absurd (false≢true e)

-- it is `Ok` where the result was
pub on_ok_mapped : {T E D P Q : Type 0} (r : Result T E) (r' : Result T D) → is_ok r' ≡ is_ok r → (P → Q) → OnOk r P → OnOk r' Q
on_ok_mapped (Ok x) (Ok y) e f h = f h
on_ok_mapped (Err x) (Ok y) e f h = absurd (false≢true (sym e))
on_ok_mapped r (Err y) e f h = tt

-- ---- what was read so far

-- it is echoed, and its begun line is kept
pub record SoFar (left left' held held' : Option (List ℕ)) (line : List ℕ) : Type 0 where
  pub input : List ℕ
  pub read : Consumes left left' input
  pub begun_is : line ≡ begun [] input
  pub written : Appends held held' (printed [] input)

pub nothing_yet : (left held : Option (List ℕ)) (line : List ℕ) → line ≡ [] → SoFar left left held held line
unfolding begun printed
nothing_yet left held line e = record { input = []; read = consumes_none left; begun_is = e; written = appends_none held }

-- bytes that are written to the front of the output
front : (out out' bytes : List ℕ) (end : ℕ) → out' ≡ write out 0 bytes → end ≡ length bytes → length bytes ≤ length out → take end out' ≡ bytes
front out out' bytes end w e h =
    ap (take end) (w ∙ write_is out 0 bytes (omega arith) ∙ ap (λ (l : List ℕ). l ++ (bytes ++ drop (0 + length bytes) out)) (take_none out)) ∙ take_at bytes _ end (sym e)

-- one read more
pub more_read : {left mid left' held half held' : Option (List ℕ)} {line line' bytes out out' : List ℕ} {end : ℕ} → SoFar left mid held half line → Consumes mid left' bytes
    → EchoIs line bytes 0 out out' line' end → end ≤ length out → Appends half held' (take end out') → SoFar left left' held held' line'
more_read {left} {mid} {left'} {held} {half} {held'} {line} {line'} {bytes} {out} {out'} {end} s c e h a =
    let is : take end out' ≡ printed (begun [] s.input) bytes =
    front out out' (printed line bytes) end e.out_is (omega (arith, e.end_is)) (omega (arith, e.end_is)) ∙ ap (λ (l : List ℕ). printed l bytes) s.begun_is
    in
    record {
      input = s.input ++ bytes;
      read = consumes_then left mid left' s.input bytes s.read c;
      begun_is = e.begun_is ∙ ap (λ (l : List ℕ). begun l bytes) s.begun_is ∙ sym (begun_then [] s.input bytes);
      written = subst (Appends held held') (ap (λ (l : List ℕ). printed [] s.input ++ l) is ∙ sym (printed_then [] s.input bytes))
          (appends_then held half held' (printed [] s.input) (take end out') s.written a);
    }

-- the last line has room
pub last_room : (line : List ℕ) (end n : ℕ) → end ≡ length (last line) → length line + 1 ≤ n → end ≤ n
last_room line end n e h = omega (arith, e, h, last_most line)

-- the end
pub all_read : {left mid left' held half held' : Option (List ℕ)} {line bytes out' : List ℕ} {end : ℕ} (out : List ℕ) → SoFar left mid held half line
    → Consumes mid left' bytes → bytes ≡ [] → IsAtEnd left' → out' ≡ write out 0 (last line) → end ≡ length (last line) → end ≤ length out
    → Appends half held' (take end out') → InputEchoed left left' held held'
all_read {left} {mid} {left'} {held} {half} {held'} {line} {bytes} {out'} {end} out s c z t w n h a =
    let is : take end out' ≡ last (begun [] s.input) = front out out' (last line) end w n (omega (arith, n, h)) ∙ ap last s.begun_is in
    record {
      input = s.input;
      read = subst (Consumes left left') (ap (λ (l : List ℕ). s.input ++ l) z ∙ append-nil s.input) (consumes_then left mid left' s.input bytes s.read c);
      ended = t;
      written = subst (λ (l : List ℕ). Appends held held' (printed [] s.input ++ l)) is (appends_then held half held' (printed [] s.input) (take end out') s.written a);
    }

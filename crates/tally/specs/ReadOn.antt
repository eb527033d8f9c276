-- What reading on leaves. Which bytes standard input gives no contract can say; of another input it is said, where the bytes that it has left are known. Assumes
-- nothing.
use Rattle.std.specs.Prelude.{◌≡◌, Bool, true, false, ◌⊎◌, List, ℕ, ◌+◌, ◌-◌, ◌≤◌, ◌<◌, Result, Ok, Option, is_err, [], length, take, drop}
use Rattle.std.specs.Io.KnownBytes.{Consumes, IsAtEnd}
use Rattle.std.specs.declared.io.Error.{Error}
use Rattle.tally_kept.specs.Kept.{last_end}
use Rattle.tally.specs.Progress.{Progress, broken, done}

-- a read: what it said, how many bytes are to be played behind those that were left, whether the input has ended, and whether the read failed
pub record Got : Type 0 where
  pub said : Result ℕ Error
  pub n : ℕ
  pub ended : Bool
  pub failed : Bool

-- The first `left` bytes stay. What `read` said decides: at an `Err` it failed; at `Ok 0` the input has ended, and the end that its last line lacks stands behind
-- them; else as many bytes are read behind them, and the input has lost them
pub record ReadIs (known known' : Option (List ℕ)) (buf : List ℕ) (left : ℕ) (r : Got) (buf' : List ℕ) : Type 0 where
  pub long : length buf' ≡ length buf
  pub stays : take left buf' ≡ take left buf
  pub within : left + r.n ≤ length buf
  pub failed_is : r.failed ≡ is_err r.said
  pub last : r.ended ≡ true → (r.said ≡ Ok 0) × (take r.n (drop left buf') ≡ last_end left)
  pub more : r.failed ≡ false → r.ended ≡ false → (0 < r.n) × (r.said ≡ Ok r.n)
  pub taken : r.failed ≡ false → r.ended ≡ false → Consumes known known' (take r.n (drop left buf'))
  pub none_left : r.ended ≡ true → Consumes known known' [] × IsAtEnd known'

-- what was read before is played, its answers are written, and there is room to read into
pub record Rests (p : Progress) (buf : List ℕ) : Type 0 where
  pub none_read : p.n ≡ 0
  pub none_waits : p.over ≡ false → p.fed.waiting ≡ 0
  pub room : p.over ≡ false → p.fed.read ≡ 0 → p.fed.left < length buf

-- once something was read
abbrev pub took : Progress → Got → Progress
took p r = record { fed = p.fed; n = r.n; ended = r.ended; over = false; failed = false; reads = p.reads - 1 }

pub data ReadOnIs (p : Progress) (buf : List ℕ) (known : Option (List ℕ)) : Progress → List ℕ → Option (List ℕ) → Type 0 where
  -- it is over, or whole lines may be left: nothing is read
  stays : (p.over ≡ true) ⊎ (¬ (p.fed.read ≡ 0)) → ReadOnIs p buf known p buf known
  -- no whole line is left of an input that has ended
  ends : p.over ≡ false → p.fed.read ≡ 0 → p.ended ≡ true → ReadOnIs p buf known (done p) buf known
  -- no whole line is left of what was read before
  reads : {r : Got} {buf' : List ℕ} {known' : Option (List ℕ)} → p.over ≡ false → p.fed.read ≡ 0 → p.ended ≡ false → 0 < p.reads → ReadIs known known' buf p.fed.left r buf'
      → r.failed ≡ false → ReadOnIs p buf known (took p r) buf' known'
  fails : {r : Got} {buf' : List ℕ} {known' : Option (List ℕ)} → ReadIs known known' buf p.fed.left r buf' → r.failed ≡ true → ReadOnIs p buf known (broken p) buf' known'
  -- a read that was not made counts as one that failed; there are more than any input has
  none : p.reads ≡ 0 → ReadOnIs p buf known (broken p) buf known

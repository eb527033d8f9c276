-- What a piece of writing leaves: bytes over a list, and the place behind them. Assumes nothing.
use Rattle.std.specs.Prelude.{◌≡◌, List, ℕ, ◌+◌, ◌≤◌, length}
use Rattle.octets.specs.Octets.{write}
use Rattle.octet_writer.specs.declared.Writer.{Writer}

-- the bytes bs over l from the place i on, and the place j behind them
pub record Written (l : List ℕ) (i : ℕ) (bs l' : List ℕ) (j : ℕ) : Type 0 where
  pub bytes : l' ≡ write l i bs
  pub behind : j ≡ i + length bs

-- ---- a writer

-- n bytes more have room
abbrev pub HasRoom : ℕ → Writer → Type 0
HasRoom n w = w.at + n ≤ length w.out.now

abbrev pub IsSameBuffer : Writer → Writer → Type 0
IsSameBuffer w w' = (w'.out.ghost_name ≡ w.out.ghost_name) × (length w'.out.now ≡ length w.out.now)

-- the same buffer, n bytes on
abbrev pub Moved : ℕ → Writer → Writer → Type 0
Moved n w w' = IsSameBuffer w w' × (w'.at ≡ w.at + n)

abbrev pub MovedAtMost : ℕ → Writer → Writer → Type 0
MovedAtMost n w w' = IsSameBuffer w w' × (w'.at ≤ w.at + n)

-- the bytes bs behind what was written
abbrev pub Wrote : List ℕ → Writer → Writer → Type 0
Wrote bs w w' = Written w.out.now w.at bs w'.out.now w'.at

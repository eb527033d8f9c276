-- What is done with the text that was read. Assumes nothing.
use Rattle.std.specs.Prelude.{◌≡◌, cond, List, ℕ, ◌+◌, eqb, length, take, drop}
use Rattle.octets.specs.Octets.{write}
use Rattle.play_lines.specs.Run.{RanIs}
use Rattle.table.specs.declared.Table.{Table}
use Rattle.ledger.specs.declared.Ledger.{Ledger}
use Rattle.tally_feed.specs.declared.Counts.{Counts}

-- the table and how many places of the book are used; how many bytes in front of the text buffer are left; how many bytes were played last; how many bytes in
-- front of the answer buffer wait to be written
pub record Fed : Type 0 where
  pub table : Table
  pub used : ℕ
  pub left : ℕ
  pub read : ℕ
  pub waiting : ℕ

-- of a record and the counts beside it
abbrev pub fed_of : Ledger → Counts → Fed
fed_of l c = record { table = l.table; used = l.book.used; left = c.left; read = c.read; waiting = c.waiting }

-- the text that is lent: what was left, and n bytes behind it
abbrev pub text_of : Fed → List ℕ → ℕ → List ℕ
text_of s buf n = take (s.left + n) buf

-- what is left of a text once its first `read` bytes are played: what is behind them; where no line was played, it is a begun line, cut to its first 1,024 bytes
abbrev pub left_of : List ℕ → ℕ → List ℕ
left_of text read = cond (eqb read 0) (take 1024 text) (drop read text)

-- the text is played as `play_lines` plays it, the answer lines stand in `out`, and what is left is written over the buffer from byte 0 on; the other bytes stay
pub record FedIs (s : Fed) (ids days buf : List ℕ) (n : ℕ) (out : List ℕ) (r : Fed) (ids' days' buf' out' : List ℕ) : Type 0 where
  pub ran : RanIs s.table ids days s.used (text_of s buf n) out (record { table = r.table; used = r.used; read = r.read; written = r.waiting }) ids' days' out'
  pub count : r.left ≡ length (left_of (text_of s buf n) r.read)
  pub bytes : buf' ≡ write buf 0 (left_of (text_of s buf n) r.read)

-- the same of a call that is lent the whole record and leaves the record u
abbrev pub Feeds : Ledger → Counts → List ℕ → ℕ → List ℕ → Ledger → Counts → List ℕ → List ℕ → Type 0
Feeds l c buf n out u d buf' out' = FedIs (fed_of l c) l.book.ids l.book.days buf n out (fed_of u d) u.book.ids u.book.days buf' out'

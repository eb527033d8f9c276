-- Each byte of the lent book after a call, by equation with the rules: the machine's next ids, 32 bytes each, are written over what stood there from byte 0
-- on, and so are their days. Assumes nothing.
use Rattle.std.specs.Prelude.{◌≡◌, List, [], ◌∷◌, ◌++◌, map, ℕ, length}
use Rattle.octets.specs.Octets.{write}
use Rattle.rules.specs.Command.{Command}
use Rattle.rules.specs.Machine.{Machine, next}
use Rattle.rules.specs.Message.{Entry}
use Rattle.table.specs.declared.Table.{Table}
use Rattle.ledger.specs.Promise.{Noted, Stepped, Sound, Settled, Played}
use Rattle.ledger.specs.View.{view_of, lent, next_of}

-- the ids one after the other
unfoldable pub id_bytes : List Entry → List ℕ
id_bytes [] = []
id_bytes (e ∷ es) = e.id ++ id_bytes es

pub record BookWritten (m : Machine) (ids days ids' days' : List ℕ) : Type 0 where
  pub ids_are : ids' ≡ write ids 0 (id_bytes m.ids)
  pub days_are : days' ≡ write days 0 (map (λ e. e.day) m.ids)

-- it follows from the calls' contracts
pub record BookBytes : Type 0 where
  pub settled : (k : Command) (t : Table) (ids days : List ℕ) (used : ℕ) (r : Noted) (ids' days' : List ℕ) → Sound t ids days used → Settled k t ids days used r ids' days'
      → BookWritten (next (view_of t ids days used) (lent 0 k)) ids days ids' days'
  pub played : (cs : List Command) (t : Table) (ids days : List ℕ) (used : ℕ) (report : List ℕ) (r : Stepped) (ids' days' report' : List ℕ) → Sound t ids days used
      → Played cs t ids days used report r ids' days' report' → BookWritten (next_of (view_of t ids days used) (length report) cs) ids days ids' days'

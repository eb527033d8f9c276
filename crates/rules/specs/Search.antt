-- Finding accounts by text (paper 02, request a): conditions, what is selected, and the report. Assumes nothing.
use Rattle.std.specs.Prelude.{Bool, true, false, not, cond, ◌&&◌, ◌||◌, List, [], ◌∷◌, ◌++◌, ℕ, length, pos, eqb}
use Rattle.octets.specs.Octets.{money}
use Rattle.rules.specs.Account.{Turnovers, Account, state}
use Rattle.rules.specs.Command.{Condition, some?}
use Rattle.rules.specs.Letters.{letter_bytes}
use Rattle.rules.specs.Message.{same_bytes, account_id, may_ask}

-- ---- texts

-- the text stands at the beginning
unfoldable pub begins : List ℕ → List ℕ → Bool
begins [] id = true
begins (a ∷ text) [] = false
begins (a ∷ text) (b ∷ id) = eqb a b && begins text id

-- the text may begin at any place
unfoldable pub contains : List ℕ → List ℕ → Bool
contains text [] = begins text []
contains text (b ∷ id) = begins text (b ∷ id) || contains text id

-- ---- conditions

-- mode 1 equal, 2 contains, 3 lacks
unfoldable pub meets : List ℕ → Condition → Bool
meets id c =
    cond (eqb c.mode 1) (same_bytes c.text id)
    (cond (eqb c.mode 2) (contains c.text id) (not (contains c.text id)))

-- ---- selection

-- an account is selected if it meets at least one condition
unfoldable pub selects : List Condition → Account → Bool
selects cs x = some? (meets (account_id x.code)) cs

-- the accounts with a property, in table order
unfoldable pub those : (Account → Bool) → List Account → List Account
those p [] = []
those p (x ∷ xs) = cond (p x) (x ∷ those p xs) (those p xs)

unfoldable pub selected : List Condition → List Account → List Account
selected cs xs = those (selects cs) xs

-- ---- the report

unfoldable pub turnover_bytes : Turnovers → List ℕ
turnover_bytes t = money (pos t.icdt) ++ (money (pos t.rcdt) ++ (money (pos t.iddt) ++ money (pos t.rddt)))

-- 52 to 57 bytes: 0, id, state, four turnovers, and the letters on the account itself
unfoldable pub shown_bytes : Account → List ℕ
shown_bytes x = (0 ∷ []) ++ (account_id x.code ++ (money (state x) ++ (turnover_bytes x.turnovers ++ letter_bytes x.letters)))

-- 24 alone where the sender may not ask for the account
unfoldable pub found_block : ℕ → List Account → Account → List ℕ
found_block sender xs x = cond (may_ask sender x.code xs) (shown_bytes x) (24 ∷ [])

unfoldable pub found_blocks : ℕ → List Account → List Account → List ℕ
found_blocks sender xs [] = []
found_blocks sender xs (y ∷ ys) = found_block sender xs y ++ found_blocks sender xs ys

-- how many accounts were selected, then each once, in table order
unfoldable pub search_report : ℕ → List Account → List Condition → List ℕ
search_report sender xs cs = (length (selected cs xs) ∷ []) ++ found_blocks sender xs (selected cs xs)

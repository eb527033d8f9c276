-- What a search selects, said without the tests and for all modes together (paper 02, request a; document 001, "Search Criteria"), and what follows for its
-- answer and report. Assumes nothing.
use Rattle.std.specs.Prelude.{◌≡◌, true, cond, ◌↔◌, ◌⊎◌, List, [], ◌∷◌, ◌++◌, ℕ, zero, suc, length, take, drop, get_or}
use Rattle.rules.specs.Account.{Account}
use Rattle.rules.specs.Command.{Header, Condition, Search, Call, every, is_code, is_condition}
use Rattle.rules.specs.Machine.{Machine, checks, first_failure, answer, outcome}
use Rattle.rules.specs.Message.{account_id, named}
use Rattle.rules.specs.Search.{selects, selected, found_block}

-- the text stands at some place of the id: there are characters before it and behind it, or none
pub record Stands (text id : List ℕ) : Type 0 where
  pub before : List ℕ
  pub behind : List ℕ
  pub whole : id ≡ before ++ (text ++ behind)

-- what a condition of this mode and text asks of an id
abbrev pub Asks : ℕ → List ℕ → List ℕ → Type 0
Asks zero text id = ⊥
Asks (suc zero) text id = text ≡ id  -- 1 equal
Asks (suc (suc zero)) text id = Stands text id  -- 2 contains
Asks (suc (suc (suc zero))) text id = ¬ (Stands text id)  -- 3 lacks
Asks (suc (suc (suc (suc m)))) text id = ⊥

-- some member of a list has a property
abbrev pub Some : {A : Type 0} → (A → Type 0) → List A → Type 0
Some P [] = ⊥
Some P (a ∷ l) = P a ⊎ Some P l

-- an account is selected if it meets at least one condition
abbrev pub Selected : List Condition → Account → Type 0
Selected cs x = Some (λ c. Asks c.mode c.text (account_id x.code)) cs

-- what is said of those of ys that are selected, one after the other
unfoldable pub each_once : ℕ → List Account → List Condition → List Account → List ℕ
each_once sender xs cs [] = []
each_once sender xs cs (y ∷ ys) = cond (selects cs y) (found_block sender xs y) [] ++ each_once sender xs cs ys

-- a search as a call
abbrev pub search_call : ℕ → Header → List Condition → Call
search_call room h cs = record { command = Search h cs; room = room }

pub record SelectionMeans : Type 0 where
  -- the id in which a text is looked for is the one that names the account
  pub names : (c : ℕ) → is_code c ≡ true → named (account_id c) ≡ c
  -- the test is true exactly where the account is selected
  pub means : (cs : List Condition) (x : Account) → every is_condition cs ≡ true → (selects cs x ≡ true) ↔ Selected cs x
  -- once the checks before it pass, 21 is given exactly where no account is selected, whether or not the sender may ask for one
  pub none_selected : (m : Machine) (room : ℕ) (h : Header) (cs : List Condition) → first_failure (take 5 (checks m room (Search h cs))) ≡ 0
      → (answer m (search_call room h cs) ≡ 21) ↔ (¬ (Some (Selected cs) m.accounts))
  -- the report of an accepted search opens with how many accounts are selected, whoever asks
  pub opens : (m : Machine) (room : ℕ) (h : Header) (cs : List Condition) → answer m (search_call room h cs) ≡ 0
      → get_or (outcome m (search_call room h cs)).report 0 0 ≡ length (selected cs m.accounts)
  -- and tells of each once, in table order
  pub in_order : (m : Machine) (room : ℕ) (h : Header) (cs : List Condition) → answer m (search_call room h cs) ≡ 0
      → drop 1 (outcome m (search_call room h cs)).report ≡ each_once h.sender m.accounts cs m.accounts

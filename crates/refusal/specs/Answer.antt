-- The number of each refusal, and the answer that the result of a call is. Assumes nothing.
use Rattle.std.specs.Prelude.{ℕ, Result, Ok, Err}
use Rattle.refusal.specs.declared.Refusal.{Refusal}
use Rattle.refusal.specs.declared.Refusal.TheVariants.{IllFormed, CodeTaken, TableFull, Unknown, NoBank, OutOfRange, ToItself, NoRoom, BankLtk, BankLpo, BranchLtk, BranchLpo, DayNotLater, IdTaken, NoHead, IllFormedId, NotCurrent, MomentNotLater, NoType, NotOwned, NothingFound, BookFull, Blocked, MarkTaken}

abbrev pub number : Refusal → ℕ
number IllFormed = 1
number CodeTaken = 2
number TableFull = 3
number Unknown = 4
number NoBank = 5
number OutOfRange = 6
number ToItself = 7
number NoRoom = 8
number BankLtk = 9
number BankLpo = 10
number BranchLtk = 11
number BranchLpo = 12
number DayNotLater = 13
number IdTaken = 14
number NoHead = 15
number IllFormedId = 16
number NotCurrent = 17
number MomentNotLater = 18
number NoType = 19
number NotOwned = 20
number NothingFound = 21
number BookFull = 22
number Blocked = 25
number MarkTaken = 26

-- 0 where the call is accepted
abbrev pub answer_of : {X : Type 0} → Result X Refusal → ℕ
answer_of (Ok x) = 0
answer_of (Err e) = number e

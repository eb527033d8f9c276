-- No place is used. Assumes nothing.
use mathlib.Core.Path.{refl}
use Rattle.book.specs.Entries.{entries_of, book_of, empty_book}
use Rattle.book.proofs.Book.empty.Goals as goal

pub returns : goal.returns
unfolding book_of empty_book entries_of
returns c = (refl, refl)

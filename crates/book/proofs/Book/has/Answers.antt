-- Whatever the days are, and so of the book's own. Assumes nothing.
use Rattle.book.specs.Entries.{book_of}
use Rattle.book.proofs.Book.has.Goals as goal

pub returns : goal.returns
unfolding book_of
returns c = c.has_id.ensures c.args.self.now.days

-- All answers that wait are handed on. Assumes nothing.
use Rattle.std.proofs.Common.{sym, length-take-le}
use Rattle.tally.proofs.Laws.{waiting_within}
use Rattle.tally.proofs.progress.Progress.put.Goals as goal

pub slice_bounds-write_answers-end : goal.slice_bounds-write_answers-end
slice_bounds-write_answers-end g c = sym (length-take-le _ _ (waiting_within c.requires.played.fed))

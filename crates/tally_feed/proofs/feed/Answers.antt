-- The text is played, and what is behind the lines played is left. Assumes nothing.
use mathlib.Core.Path.{ap, ◌∙◌}
use mathlib.Core.List.{List}
use Prim.Native.Nat.{◌+◌, ◌≤◌}
use native.Mathlib.Omega.{arith}
use lib.Seq.{length-take-le}
use Rattle.octets.specs.Octets.{write}
use Rattle.tally_feed.proofs.Buffer.{left_bytes, left_count}
use Rattle.tally_feed.proofs.feed.Goals.{After-play_lines-played}
use Rattle.tally_feed.proofs.feed.Goals as goal

-- the lines played are of the text
within : (c : After-play_lines-played) → c.play_lines-played.result.read ≤ c.args.c.left + c.args.n
within c =
    omega (arith, c.play_lines-played.ensures.passed.within, length-take-le (c.args.c.left + c.args.n) c.args.buf.now c.requires.1)

pub returns : goal.returns
returns c =
    let len = c.args.c.left + c.args.n in
    let w = within (goal.at.returns c).After-play_lines-played in
    record {
      ran = c.play_lines-played.ensures;
      count = c.keep.ensures.1 ∙ left_count c.args.buf.now c.play_lines-played.result.read len w c.requires.1;
      bytes = c.keep.ensures.0 ∙ ap (λ (l : List _). write c.args.buf.now 0 l) (left_bytes c.args.buf.now c.play_lines-played.result.read len w c.requires.1);
    }

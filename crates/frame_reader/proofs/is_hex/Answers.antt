use native.Mathlib.Omega.{arith}
use Rattle.frame.specs.Hex.{is_hex, is_letter}
use Rattle.frame_reader.proofs.is_hex.Goals as goal

pub returns : goal.returns
unfolding is_hex is_letter
returns c = grind arith

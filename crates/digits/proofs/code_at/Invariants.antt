-- What is left goes on from the code so far, which is the most where each byte is 255. Assumes nothing.
use mathlib.Core.Path.{◌≡◌}
use Prim.Native.Nat.{◌+◌, ◌*◌, ◌^◌, ◌≤◌}
use lib.ListN.{drop}
use Rattle.octets.specs.Octets.{part}
use Rattle.rules.specs.Message.{decimal}
use Rattle.digits.proofs.code_at.Given as goal

abbrev pub invariant-loop-d : goal.invariant-loop-d
invariant-loop-d l = record {
  bound : l.code + 23 ≤ 23 * 10 ^ l.d-index;
  rest : decimal l.code (drop l.d-index (part l.i 6 l.b)) ≡ decimal 0 (part l.i 6 l.b);
}

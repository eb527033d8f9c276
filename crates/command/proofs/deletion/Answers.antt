use mathlib.Core.Path.{refl}
use native.Mathlib.Omega.{arith}
use Rattle.command.proofs.Messages.{deletion_length, deletion_held}
use Rattle.command.proofs.deletion.Goals as goal

pub header_at-requires : goal.header_at-requires
header_at-requires c =
    omega (arith, deletion_length c.args.b.now c.requires.0 c.requires.1)

pub read-requires : goal.read-requires
read-requires c =
    omega (arith, deletion_length c.args.b.now c.requires.0 c.requires.1)

pub bounds-b-57 : goal.bounds-b-57
bounds-b-57 c =
    omega (arith, deletion_length c.args.b.now c.requires.0 c.requires.1)

pub returns : goal.returns
returns c = deletion_held c.args.b.now c.requires.0 _ c.header_at.ensures _ _ c.requires.1 c.read.ensures refl

use mathlib.Core.Path.{◌≡◌, refl, sym, ◌∙◌}
use mathlib.Core.Bool.{false}
use native.Mathlib.Omega.{arith}
use Rattle.frame_reader.specs.Unpacked.{is_packed}
use Rattle.frame_reader.proofs.Reader.{unread, read_digits}
use Rattle.frame_reader.proofs.unpack.Goals as goal

pub returns-then-line-ne0 : goal.returns-then-line-ne0
unfolding is_packed
returns-then-line-ne0 c =
    let e : is_packed c.args.line.now ≡ false = grind arith in
    (sym e, unread c.args.line.now e c.args.buf.now)

pub returns : goal.returns
unfolding is_packed
returns c = (
  grind arith,
  read_digits c.args.line.now c.if-line-ne0.false (omega (arith, c.if-n-gt352.false))
      (sym c.all_hex.ensures ∙ c.if-not-all_hex.false) c.args.buf.now _ (rw c.decode.ensures refl),
)

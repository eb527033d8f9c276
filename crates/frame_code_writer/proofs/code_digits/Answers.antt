use native.Mathlib.Omega.{arith}
use mathlib.Core.Path.{◌≡◌}
use Prim.Native.Nat.{◌+◌, ◌/◌, ◌%◌}
use Rattle.rules.specs.Message.{digits}
use Rattle.frame_code_writer.proofs.code_digits.Goals as goal

pub returns : goal.returns
unfolding digits
returns c =
    let n = c.args.code in
    let p : c.digit.result ≡ 48 + n / 10 / 10 / 10 / 10 / 10 % 10 = omega (arith, c.digit.ensures) in
    let q : c.digit-2.result ≡ 48 + n / 10 / 10 / 10 / 10 % 10 = omega (arith, c.digit-2.ensures) in
    let r : c.digit-3.result ≡ 48 + n / 10 / 10 / 10 % 10 = omega (arith, c.digit-3.ensures) in
    let s : c.digit-4.result ≡ 48 + n / 10 / 10 % 10 = omega (arith, c.digit-4.ensures) in
    rw (p, q, r, s, c.digit-5.ensures, c.digit-6.ensures)

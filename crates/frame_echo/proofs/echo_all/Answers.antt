-- What is printed has room in the output, and what was read so far is echoed: the read and the write were `Ok` where the result with the mapped error is. Assumes nothing.
use Rattle.std.proofs.Common.{Ok, rules, ◌≡◌, ◌≤◌, [], length, take, arith, ap, sym, ◌∙◌, length-take-le}
use Rattle.octets.proofs.Places.{take_none}
use Rattle.frame_echo.proofs.Begun.{begun_most, echo_fits}
use Rattle.frame_echo.proofs.Whole.{on_ok_mapped, last_room, nothing_yet, more_read, all_read}
use Rattle.frame_echo.proofs.echo_all.Given.{Over}
use Rattle.frame_echo.proofs.echo_all.Goals.{After-finish-end, After-steps-end, In-loop}
use Rattle.frame_echo.proofs.echo_all.Goals as goal

-- the begun line
short : (g : Over) (s : In-loop g) → length s.loop.line.items ≤ 705
short g s = omega (arith, ap length s.loop.invariant.begun_is, begun_most [] s.loop.invariant.input (omega arith))

-- the last line
last_fits : (g : Over) (s : After-finish-end g) → s.finish-end.result ≤ length s.finish-end.new.out
last_fits g s = last_room s.as_slice.result.now _ _ s.finish-end.ensures.1 (omega (arith, s.as_slice.array_long, s.as_slice.ensures.fits, s.finish-end.auto.out))

-- the lines that were read
fits : (g : Over) (s : After-steps-end g) → s.steps-end.result ≤ length s.steps-end.new.out
fits g s =
    let was : s.read.result ≡ Ok s.in_ok-n.n = grind arith in
    let bound = rw was at s.read.ensures.bound in
    let l : length s.loop.out ≡ 65536 = search rules in
    omega (arith, l, s.steps-end.auto.out, ap length s.loop.invariant.begun_is, begun_most [] s.loop.invariant.input (omega arith), bound.1, bound.0, s.if-n-eq0.array_long, echo_fits _ _ _ _ _ _ s.steps-end.ensures)

pub loop-init : goal.loop-init
loop-init g c = nothing_yet _ _ _ c.new-line.ensures

pub slice_bounds-out-end : goal.slice_bounds-out-end
slice_bounds-out-end g c = last_fits g (goal.at.slice_bounds-out-end g c).After-finish-end

pub slice_bounds-write_all-end : goal.slice_bounds-write_all-end
slice_bounds-write_all-end g c = sym (length-take-le _ _ (last_fits g (goal.at.slice_bounds-write_all-end g c).After-finish-end))

pub steps-end-requires : goal.steps-end-requires
steps-end-requires g c =
    let l : length c.loop.out ≡ 65536 = search rules in
    let was : c.read.result ≡ Ok c.in_ok-n.n = grind arith in
    let bound = rw was at c.read.ensures.bound in
    omega (arith, l, short g (goal.at.steps-end-requires g c).In-loop, bound.1, bound.0, c.if-n-eq0.array_long)

pub slice_bounds-out-end-in-loop : goal.slice_bounds-out-end-in-loop
slice_bounds-out-end-in-loop g c = fits g (goal.at.slice_bounds-out-end-in-loop g c).After-steps-end

pub slice_bounds-write_all-end-in-loop : goal.slice_bounds-write_all-end-in-loop
slice_bounds-write_all-end-in-loop g c = sym (length-take-le _ _ (fits g (goal.at.slice_bounds-write_all-end-in-loop g c).After-steps-end))

pub loop-preserved : goal.loop-preserved
loop-preserved g c =
    let was : c.read.result ≡ Ok c.in_ok-n.n = grind arith in
    let read = rw was at c.read.ensures.bytes in
    let was_written : c.write_all-in-loop.result ≡ Ok c.in_ok-map_err.field-0 = grind arith in
    let written = rw was_written at c.write_all-in-loop.ensures.bytes in
    more_read c.loop.invariant read.0 c.steps-end.ensures (omega (arith, fits g (goal.at.loop-preserved g c).After-steps-end, c.steps-end.auto.out)) written

pub returns-then-n-eq0 : goal.returns-then-n-eq0
returns-then-n-eq0 g c =
    let fit = last_fits g (goal.at.returns-then-n-eq0 g c).After-finish-end in
    let none = ap (λ n. take n c.read.new.buf) c.if-n-eq0.true ∙ take_none c.read.new.buf in
    let e = rw c.as_slice.ensures.value at c.finish-end.ensures in
    let was : c.read.result ≡ Ok c.in_ok-n.n = grind arith in
    let read = rw was at c.read.ensures.bytes in
    let end = all_read c.loop.out c.loop.invariant read.0 none (read.1 c.if-n-eq0.true (omega arith)) e.0 e.1 (omega (arith, fit, c.finish-end.auto.out)) in
    on_ok_mapped _ _ c.map_err-then-n-eq0.ensures.variant end c.write_all.ensures.bytes

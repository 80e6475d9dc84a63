-- `lines::parts::square_root` meets its contract. The loop's invariant: the guess is not below the root. The guess falls at each turn.
use Rattle.std.proofs.Common.{arith}
use lib.Count.{leading_le}
use Rattle.rules.proofs.SquareRoot.{root_only}
use Rattle.lines.proofs.Newton.{half_few, first_guess, next_less, next_guess_lem, root_found, root_fits}
use Rattle.lines.proofs.parts.square_root.Goals as goal

pub returns-then-q-eq0 : goal.returns-then-q-eq0
returns-then-q-eq0 c = root_only c.args.q 0 (omega arith) (omega (arith, c.if-q-eq0.true))

pub overflow_sub-guess : goal.overflow_sub-guess
overflow_sub-guess c = omega (arith, leading_le 64 c.args.q)

pub overflow_cast-guess : goal.overflow_cast-guess
overflow_cast-guess c = omega arith

pub overflow_shl-guess : goal.overflow_shl-guess
overflow_shl-guess c = omega (arith, half_few c.args.q c.ranges.q.fits)

pub loop-guess-init : goal.loop-guess-init
loop-guess-init c = first_guess c.args.q c.ranges.q.fits

pub nonzero_div-q : goal.nonzero_div-q
nonzero_div-q c = c.loop-guess.invariant.some

pub nonzero_div-guess-in-loop-guess : goal.nonzero_div-guess-in-loop-guess
nonzero_div-guess-in-loop-guess c = c.loop-guess.invariant.some

pub overflow_add-guess : goal.overflow_add-guess
overflow_add-guess c = omega (arith, c.loop-guess.invariant.most, c.loop-guess-test.true)

pub loop-guess-smaller : goal.loop-guess-smaller
loop-guess-smaller c =
    let l = c.loop-guess in
    next_less c.args.q l.guess l.invariant c.loop-guess-test.true

pub loop-guess-preserved : goal.loop-guess-preserved
loop-guess-preserved c =
    let l = c.loop-guess in
    next_guess_lem c.args.q l.guess l.invariant (omega (arith, c.if-q-eq0.false)) c.loop-guess-test.true

pub overflow_cast-result : goal.overflow_cast-result
overflow_cast-result c =
    let l = c.loop-guess in
    record { fits = root_fits c.args.q l.guess l.invariant c.ranges.q.fits c.loop-guess-test.false }

pub returns : goal.returns
returns c =
    let l = c.loop-guess in
    root_found c.args.q l.guess l.invariant c.loop-guess-test.false

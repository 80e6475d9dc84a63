-- `lines::parts::lower_parts` meets its contract.
use Rattle.std.proofs.Common.{nat_abs, ap, arith}
use Rattle.lines.proofs.LineParts.{Terms, minus_small, minus_held, lower_parts}
use Rattle.lines.proofs.parts.lower_parts.Goals as goal

pub overflow_sub-sum_parts : goal.overflow_sub-sum_parts
overflow_sub-sum_parts c =
    let terms : let a = c.args in Terms a.s c.sum_parts.result a.d =
    record { bounded = c.requires.bounded; sum_is = c.sum_parts.ensures; few = c.ranges.d.fits } in
    (minus_held terms).fits

pub quotient_up-requires : goal.quotient_up-requires
quotient_up-requires c =
    let terms : let a = c.args in Terms a.s c.sum_parts.result a.d =
    record { bounded = c.requires.bounded; sum_is = c.sum_parts.ensures; few = c.ranges.d.fits } in
    let small = minus_small c.args.s c.requires.bounded c.args.d c.ranges.d.fits in
    (omega (arith, ap nat_abs (minus_held terms).is, small), omega (arith, c.requires.two))

pub returns : goal.returns
returns c =
    let terms : let a = c.args in Terms a.s c.sum_parts.result a.d =
    record { bounded = c.requires.bounded; sum_is = c.sum_parts.ensures; few = c.ranges.d.fits } in
    lower_parts terms c.quotient_up.result c.quotient_up.ensures

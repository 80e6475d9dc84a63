-- `lines::parts::upper_parts` meets its contract.
use Rattle.lines.proofs.LineParts.{Terms, plus_held, upper_parts}
use Rattle.lines.proofs.parts.upper_parts.Goals as goal

pub overflow_add-sum_parts : goal.overflow_add-sum_parts
overflow_add-sum_parts c =
    let terms : let a = c.args in Terms a.s c.sum_parts.result a.d =
    record { bounded = c.requires.bounded; sum_is = c.sum_parts.ensures; few = c.ranges.d.fits } in
    (plus_held terms).fits

pub returns : goal.returns
returns c =
    let terms : let a = c.args in Terms a.s c.sum_parts.result a.d =
    record { bounded = c.requires.bounded; sum_is = c.sum_parts.ensures; few = c.ranges.d.fits } in
    upper_parts terms c.quotient_down.result c.quotient_down.ensures

-- `lines::line_of` meets its contract.
use Rattle.std.proofs.Common.{lit≤}
use Rattle.lines.proofs.Doubles.{in_double, cast_in_double, line_double}
use Rattle.lines.proofs.line_of.Goals as goal

pub int_to_float-parts : goal.int_to_float-parts
int_to_float-parts c = in_double _ (lit≤ tt)

pub int_to_float-result : goal.int_to_float-result
int_to_float-result c = cast_in_double c.args.k c.ranges.k c.requires

pub returns : goal.returns
returns c = line_double c.args.k c.ranges.k c.requires

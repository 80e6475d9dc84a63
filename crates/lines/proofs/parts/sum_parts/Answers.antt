-- `lines::parts::sum_parts` meets its contract.
use Rattle.lines.proofs.LineParts.{sum_parts}
use Rattle.lines.proofs.parts.sum_parts.Goals as goal

pub overflow_mul-result : goal.overflow_mul-result
overflow_mul-result c = (sum_parts c.args.s c.requires).fits

pub returns : goal.returns
returns c = (sum_parts c.args.s c.requires).is

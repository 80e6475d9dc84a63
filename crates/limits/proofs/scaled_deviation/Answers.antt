-- `limits::scaled_deviation` meets its contract.
use Rattle.std.proofs.Common.{arith}
use Rattle.std.proofs.lemmas.Int.{to_z-of_z}
use Rattle.limits.proofs.Deviation.{deviation}
use Rattle.limits.proofs.scaled_deviation.Goals as goal

pub overflow_sub-result : goal.overflow_sub-result
overflow_sub-result c = (deviation c.args.s c.requires c.args.w c.ranges.w c.from.result (grind (arith, to_z-of_z))).fits

pub returns : goal.returns
returns c = (deviation c.args.s c.requires c.args.w c.ranges.w c.from.result (grind (arith, to_z-of_z))).is

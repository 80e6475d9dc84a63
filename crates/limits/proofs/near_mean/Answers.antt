-- `limits::near_mean` meets its contract.
use Rattle.std.proofs.Common.{arith}
use Rattle.std.proofs.lemmas.Int.{to_z-of_z}
use Rattle.limits.proofs.Comparison.{comparable}
use Rattle.limits.proofs.near_mean.Goals as goal

pub within-requires : goal.within-requires
within-requires c = comparable _ _ c.args.w _ (omega arith) c.args.l.bounded c.ranges.w (grind (arith, to_z-of_z))

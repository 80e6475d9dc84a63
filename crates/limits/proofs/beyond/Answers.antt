-- `limits::beyond` meets its contract.
use Rattle.std.proofs.Common.{arith}
use Rattle.std.proofs.lemmas.Int.{to_z-of_z}
use Rattle.rules.specs.Limits.{above, below, above_mean, below_mean, beyond_upper, beyond_lower}
use Rattle.limits.proofs.Comparison.{comparable}
use Rattle.limits.proofs.beyond.Goals as goal

pub exceeds-far-requires : goal.exceeds-far-requires
exceeds-far-requires c = comparable _ _ c.args.w _ c.ranges.m.fits c.args.l.bounded c.ranges.w (grind (arith, to_z-of_z))

pub returns : goal.returns
unfolding beyond_upper beyond_lower above below above_mean below_mean
returns c = grind (arith, to_z-of_z)

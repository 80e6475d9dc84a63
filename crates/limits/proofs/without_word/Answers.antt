-- `limits::without_word` meets its contract.
use Rattle.std.proofs.Common.{arith}
use Rattle.std.proofs.lemmas.Int.{ints, to_z-of_z}
use Rattle.rules.specs.Limits.{sum_by}
use Rattle.limits.proofs.Removing.{less_one}
use Rattle.limits.proofs.without_word.Goals as goal

pub returns : goal.returns
unfolding sum_by
returns c =
    less_one c.args.s c.args.w _ _ (grind (arith, ints, to_z-of_z)) (grind (arith, to_z-of_z)) (grind (arith, to_z-of_z))

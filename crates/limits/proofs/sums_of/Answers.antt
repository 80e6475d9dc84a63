-- `limits::sums_of` meets its contract.
use Rattle.std.proofs.Common.{rules}
use Rattle.limits.proofs.Summing.{of_one_more}
use Rattle.limits.proofs.sums_of.Goals as goal

pub loop-w-preserved : goal.loop-w-preserved
loop-w-preserved c =
    of_one_more _ _ _ _ c.requires c.loop-w-test.true (search rules) c.loop-w.invariant c.with_word-s.ensures

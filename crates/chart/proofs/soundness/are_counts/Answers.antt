-- `chart::soundness::are_counts` meets its contract.
use Rattle.std.proofs.Common.{arith}
use Rattle.std.proofs.lemmas.Bool.Decides.{nat_tests}
use Rattle.rules.specs.Soundness.{are_counts}
use Rattle.chart.proofs.soundness.are_counts.Goals as goal

pub returns : goal.returns
unfolding are_counts
returns c = rw (c.contains.ensures.value, c.new.ensures.start, c.new.ensures.end, c.new.ensures.exhausted) (grind (arith, nat_tests))

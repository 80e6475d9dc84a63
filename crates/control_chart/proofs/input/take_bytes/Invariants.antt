use Rattle.std.proofs.Common.{length, ◌-◌}
use Rattle.control_chart.proofs.Taking.{TakenTo}
use Rattle.control_chart.proofs.input.take_bytes.Given as goal

abbrev pub invariant-loop-at : goal.invariant-loop-at
invariant-loop-at l = TakenTo l.bytes l.at l.initial.kept l.initial.line l.kept l.line

abbrev pub decreases-loop-at : goal.decreases-loop-at
decreases-loop-at l = length l.bytes - l.at

use Rattle.std.proofs.Common.{length, ◌-◌}
use Rattle.control_chart.proofs.Places.{Within}
use Rattle.control_chart.proofs.read.read_all.Given as goal

abbrev pub invariant-loop-len : goal.invariant-loop-len
invariant-loop-len l = Within l.len l.initial.bytes l.bytes

abbrev pub decreases-loop-len : goal.decreases-loop-len
decreases-loop-len l = length l.initial.bytes - l.len

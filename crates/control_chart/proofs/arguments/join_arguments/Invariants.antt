use Rattle.std.proofs.Common.{◌≤◌, length}
use Rattle.control_chart.proofs.arguments.join_arguments.Given as goal

abbrev pub invariant-loop-i : goal.invariant-loop-i
invariant-loop-i l = l.at ≤ length l.line

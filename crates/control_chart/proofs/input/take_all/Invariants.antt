use Rattle.control_chart.proofs.Taking.{AllCame}
use Rattle.control_chart.proofs.input.take_all.Given as goal

abbrev pub invariant-loop : goal.invariant-loop
invariant-loop l = AllCame l.initial.kept l.initial.line l.kept l.line

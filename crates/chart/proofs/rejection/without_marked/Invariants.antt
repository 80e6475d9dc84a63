-- `chart::rejection::without_marked` meets its contract. The loop's invariant: the unmarked words before i stand at the front.
use Rattle.chart.proofs.Marks.{Moved}
use Rattle.chart.proofs.rejection.without_marked.Given as goal

abbrev pub invariant-loop-i : goal.invariant-loop-i
invariant-loop-i l = Moved l.marks l.w-items l.i l.left l.kept

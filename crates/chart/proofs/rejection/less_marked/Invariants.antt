-- `chart::rejection::less_marked` meets its contract. The loop's invariant: the marked words from i on remain to be taken away.
use Rattle.chart.proofs.Marks.{Taken}
use Rattle.chart.proofs.rejection.less_marked.Given as goal

abbrev pub invariant-loop-i : goal.invariant-loop-i
invariant-loop-i l = Taken l.marks l.w-items l.initial.less l.i l.less

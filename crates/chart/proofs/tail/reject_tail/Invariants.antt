-- `chart::tail::reject_tail` meets its contract. The loop's invariant: the search from k on gives the answer.
use Rattle.std.proofs.Common.{◌≡◌, ◌++◌}
use Rattle.rules.specs.Tail.{shortest_tail}
use Rattle.rules.proofs.Tail.{search_from}
use Rattle.chart.proofs.tail.reject_tail.Given as goal

abbrev pub invariant-loop-k : goal.invariant-loop-k
invariant-loop-k l = search_from l.kind (l.base ++ l.series) l.k ≡ shortest_tail l.kind (l.base ++ l.series)

-- `chart::rejection::marks_beyond` meets its contract. The loop's invariant: the marks of the words before i are in place.
use Rattle.std.proofs.Common.{◌≡◌, false, map, take}
use Rattle.rules.specs.Sizes.{base_most}
use Rattle.rules.specs.Limits.{beyond_control}
use Rattle.limits.specs.Sums.{limits_say}
use Rattle.chart.specs.Pad.{pad}
use Rattle.chart.proofs.rejection.marks_beyond.Given as goal

abbrev pub invariant-loop-i : goal.invariant-loop-i
invariant-loop-i l = l.marks ≡ pad false base_most (map (beyond_control (limits_say l.l)) (take l.i l.w-items))

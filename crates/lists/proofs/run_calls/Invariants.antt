-- `lists::run_calls` meets its contract. The loop's invariant: the calls made, followed by those that are left, give what all calls give.
use Prim.Native.Nat.{◌*◌}
use Rattle.lists.specs.Encoding.{call_size, answer_size}
use Rattle.lists.proofs.Running.{At}
use Rattle.lists.proofs.run_calls.Given as goal

abbrev pub invariant-loop-i : goal.invariant-loop-i
invariant-loop-i l = At l.calls l.initial.answers l.initial.chart l.answers l.chart (l.i * call_size) (l.i * answer_size)

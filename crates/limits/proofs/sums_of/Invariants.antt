-- `limits::sums_of` meets its contract. The loop's invariant: the sums are those of the words so far.
use lib.ListN.{take}
use Rattle.limits.proofs.Summing.{Summed}
use Rattle.limits.proofs.sums_of.Given as goal

abbrev pub invariant-loop-w : goal.invariant-loop-w
invariant-loop-w l = Summed (take l.w-index l.words) l.s

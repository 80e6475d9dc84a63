-- `judging::verdict::sides_of` meets its contract. The loop's invariant, for above and for below: the result for the words so far, joined
-- with the result for the words that remain, is the result for all words.
use Rattle.limits.specs.Sums.{sums_say}
use Rattle.judging.proofs.Judging.{SidesSoFar}
use Rattle.judging.proofs.verdict.sides_of.Given as goal

abbrev pub invariant-loop-w : goal.invariant-loop-w
invariant-loop-w l = SidesSoFar (sums_say l.l.sums) l.words l.w-index l.above l.below

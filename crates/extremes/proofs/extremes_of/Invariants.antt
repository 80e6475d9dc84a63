-- `extremes::extremes_of` meets its contract. The loop's invariant: the extremes so far and the words that remain give those of all words.
use lib.ListN.{drop}
use Rattle.extremes.proofs.Picking.{SoFar}
use Rattle.extremes.proofs.extremes_of.Given as goal

abbrev pub invariant-loop-w : goal.invariant-loop-w
invariant-loop-w l = SoFar l.words (drop l.w-index l.rest) l.e

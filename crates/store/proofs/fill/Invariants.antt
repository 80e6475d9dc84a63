-- `store::fill` meets its contract. Invariant: the first i words are put.
use mathlib.Core.Path.{◌≡◌}
use lib.ListN.{take}
use Rattle.store.specs.Records.{words_at}
use Rattle.store.proofs.fill.Given as goal

abbrev pub invariant-loop-i : goal.invariant-loop-i
invariant-loop-i l = take l.i l.word-items ≡ take l.i (words_at l.bytes l.place)

-- `commands::numbers::put_words` meets its contract. The loop's invariant: the words before the present field are put.
use Prim.Native.Nat.{◌+◌}
use lib.ListN.{length}
use Rattle.commands.proofs.WordsPut.{WordsPut}
use Rattle.commands.proofs.numbers.put_words.Given as goal

abbrev pub invariant-loop-field : goal.invariant-loop-field
invariant-loop-field l = WordsPut l.fields l.initial.words l.words l.count l.field l.rest

abbrev pub decreases-loop-field : goal.decreases-loop-field
decreases-loop-field l = length l.field + length l.rest

-- `printing::put_text` meets its contract. The loop's invariant: the bytes before this one are put.
use lib.ListN.{take}
use Rattle.printing.specs.Output.{Puts}
use Rattle.printing.proofs.put_text.Given as goal

abbrev pub invariant-loop-b : goal.invariant-loop-b
invariant-loop-b l = Puts l.initial.out l.at (take l.b-index l.text) l.out l.next

-- `printing::tables::put_first_text` meets its contract. The loop's invariant: the text is put up to the place i.
use lib.ListN.{drop}
use Rattle.printing.specs.Table.{first_text}
use Rattle.printing.proofs.Putting.{PutSoFar}
use Rattle.printing.proofs.tables.put_first_text.Given as goal

abbrev pub invariant-loop-i : goal.invariant-loop-i
invariant-loop-i l = PutSoFar l.initial.out 0 (first_text (drop l.start l.table)) (first_text (drop l.i l.table)) l.out l.next

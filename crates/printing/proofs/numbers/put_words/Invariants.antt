-- `printing::numbers::put_words` meets its contract. The loop's invariant: the words before this one are put.
use lib.ListN.{take}
use Rattle.printing.specs.Output.{Puts}
use Rattle.printing.specs.Decimal.{spaced_words}
use Rattle.printing.proofs.numbers.put_words.Given as goal

abbrev pub invariant-loop-w : goal.invariant-loop-w
invariant-loop-w l = Puts l.initial.out l.at (spaced_words (take l.w-index l.words)) l.out l.next

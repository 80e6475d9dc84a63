-- `store::numbers::put_word_numbers` meets its contract. The loop's invariant: the words so far are put.
use Rattle.rules.specs.Buffer.{Placed}
use Rattle.store.proofs.TwoBytes.{bytes_of_first}
use Rattle.store.proofs.numbers.put_word_numbers.Given as goal

abbrev pub invariant-loop-w : goal.invariant-loop-w
invariant-loop-w l = Placed l.initial.out l.at (bytes_of_first l.words l.w-index) l.out l.next

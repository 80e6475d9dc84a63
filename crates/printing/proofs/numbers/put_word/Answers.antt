-- `printing::numbers::put_word` meets its contract: a space, and the word after it.
use Rattle.rules.proofs.Held.{cast_word_lem, cast_fits}
use Rattle.printing.proofs.Putting.{puts_then}
use Rattle.printing.proofs.numbers.put_word.Goals as goal

pub overflow_cast-w : goal.overflow_cast-w
overflow_cast-w c = cast_fits c.ranges.w

pub returns : goal.returns
returns c =
    puts_then c.put_byte-next.ensures (rw (cast_word_lem c.ranges.w) at c.put_signed.ensures)

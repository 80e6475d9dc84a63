-- `replies::put_word` meets its contract.
use Rattle.rules.proofs.Held.{cast_word_lem, cast_fits}
use Rattle.printing.proofs.Putting.{puts_then}
use Rattle.replies.specs.Texts.{word_text}
use Rattle.replies.proofs.put_word.Goals as goal

pub overflow_cast-w : goal.overflow_cast-w
overflow_cast-w c = cast_fits c.ranges.w

pub returns : goal.returns
unfolding word_text
returns c =
    puts_then c.put_text-at.ensures (rw (cast_word_lem c.ranges.w) at c.put_signed.ensures)

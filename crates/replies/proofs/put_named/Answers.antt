-- `replies::put_named` meets its contract: the name, and the number after it.
use Rattle.printing.proofs.Putting.{puts_then}
use Rattle.replies.proofs.put_named.Goals as goal

pub returns : goal.returns
returns c =
    puts_then c.put_text-next.ensures c.put_decimal.ensures

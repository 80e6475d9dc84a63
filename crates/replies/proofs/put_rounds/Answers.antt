-- `replies::put_rounds` meets its contract.
use Rattle.printing.proofs.Putting.{puts_then}
use Rattle.replies.specs.Texts.{rounds_text}
use Rattle.replies.proofs.put_rounds.Goals as goal

pub returns : goal.returns
unfolding rounds_text
returns c =
    puts_then c.put_text-at.ensures (puts_then c.put_named-behind_rounds.ensures c.put_named.ensures)

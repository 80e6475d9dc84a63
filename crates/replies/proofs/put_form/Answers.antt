-- `replies::put_form` meets its contract.
use Rattle.printing.proofs.Putting.{puts_then}
use Rattle.replies.specs.Texts.{bytes_text}
use Rattle.replies.proofs.put_form.Goals as goal

pub returns : goal.returns
unfolding bytes_text
returns c =
    puts_then c.put_named-behind_count.ensures (puts_then c.put_text-at_digits.ensures c.put_hex.ensures)

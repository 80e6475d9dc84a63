-- `replies::put_list` meets its contract.
use Rattle.printing.proofs.Putting.{puts_then}
use Rattle.replies.specs.Texts.{list_text}
use Rattle.replies.proofs.put_list.Goals as goal

pub returns : goal.returns
unfolding list_text
returns c =
    puts_then c.put_named-behind_count.ensures c.put_words.ensures

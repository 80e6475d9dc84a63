-- `replies::put_chart` meets its contract.
use Rattle.chart.specs.Chart.{state_of}
use Rattle.printing.proofs.Putting.{puts_then}
use Rattle.replies.specs.Texts.{state_text}
use Rattle.replies.proofs.put_chart.Goals as goal

pub returns : goal.returns
unfolding state_text state_of
returns c =
    puts_then c.put_named-behind_kind.ensures
    (puts_then c.put_named-behind_status.ensures
    (puts_then c.put_named-behind_verdict.ensures
    (puts_then (rw c.first_words.ensures at c.put_list-behind_base.ensures)
    (rw c.first_words-2.ensures at c.put_list.ensures))))

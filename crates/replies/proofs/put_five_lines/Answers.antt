-- `replies::put_five_lines` meets its contract.
use Rattle.printing.proofs.Putting.{puts_then}
use Rattle.replies.specs.Texts.{five_lines_text}
use Rattle.replies.proofs.put_five_lines.Goals as goal

pub returns : goal.returns
unfolding five_lines_text
returns c =
    puts_then c.put_chart_line-behind_mean.ensures
    (puts_then c.put_chart_line-behind_lower.ensures
    (puts_then c.put_chart_line-behind_warning.ensures
    (puts_then c.put_chart_line-behind_control.ensures c.put_chart_line.ensures)))

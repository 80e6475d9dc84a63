-- `replies::put_each_line` meets its contract.
use Rattle.lines.specs.Lines.{lines_say}
use Rattle.printing.proofs.Putting.{puts_then}
use Rattle.replies.specs.Texts.{five_lines_text}
use Rattle.replies.proofs.put_each_line.Goals as goal

pub returns-in-Duplicate : goal.returns-in-Duplicate
unfolding lines_say
returns-in-Duplicate c =
    rw c.in-Duplicate.is
    (puts_then c.put_text-at.ensures
    (puts_then c.put_chart_line-behind_mean.ensures (puts_then c.put_chart_line-behind_warning.ensures c.put_chart_line.ensures)))

pub returns-in-TwoSided : goal.returns-in-TwoSided
unfolding lines_say five_lines_text
returns-in-TwoSided c =
    rw c.in-TwoSided.is (puts_then c.put_text-at.ensures c.put_five_lines.ensures)

-- `replies::put_chart_line` meets its contract.
use borrow.Author.Rules.{sfits_of}
use mir.Facts.{to_z-of_z}
use Rattle.printing.proofs.Putting.{puts_then}
use Rattle.replies.specs.Texts.{chart_line_text}
use Rattle.replies.proofs.put_chart_line.Goals as goal

pub returns : goal.returns
unfolding chart_line_text
returns c =
    let parts = c.parts_in in
    puts_then c.put_text-next.ensures
    (rw (to_z-of_z (sfits_of parts.type_inv), parts.ensures) at c.put_parts.ensures)

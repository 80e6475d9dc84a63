-- `replies::put_retested` meets its contract.
use mathlib.Core.Path.{◌≡◌}
use mir.Syntax.{w16}
use borrow.Author.Rules.{rules}
use mir.Facts.{to_z-of_z}
use Rattle.printing.proofs.Putting.{puts_then}
use Rattle.replies.specs.Texts.{outcome_text}
use Rattle.replies.proofs.put_retested.Goals as goal
use Rattle.replies.proofs.put_retested.Goals.{then-retested, else-retested}

pub returns : goal.returns
returns c =
    let outcome : c.if-retested.outcome.now ≡ outcome_text c.args.retested.passed =
    elim c.if-retested.branch [
      | then-retested w ↦ rw (w.outcome-is, w.if-retested.true)
      | else-retested w ↦ rw (w.outcome-is, w.if-retested.false)
    ] in
    puts_then (rw (to_z-of_z {w = w16} {z = c.args.retested.word} (search rules)) at c.put_word-at.ensures)
    (rw outcome at c.put_text.ensures)

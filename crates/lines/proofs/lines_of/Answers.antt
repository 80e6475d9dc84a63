-- `lines::lines_of` meets its contract: 14 first, and then the lines of a sound chart.
use mathlib.Core.Path.{◌≡◌, ap, ◌∙◌}
use Rattle.std.proofs.Common.{rules}
use Rattle.std.specs.Prelude.{Err}
use Rattle.rules.specs.Outcome.{refused}
use Rattle.chart.proofs.Checked.{not_checked, checked_number, same_checked}
use Rattle.lines.specs.Lines.{lines_answer_says}
use Rattle.lines.proofs.ChartLines.{lines_given, lines_declined}
use Rattle.lines.proofs.lines_of.Goals as goal

pub returns-in_err-sound : goal.returns-in_err-sound
unfolding lines_answer_says
returns-in_err-sound c =
    let same : c.from_residual.result ≡ Err c.in_err-sound.field-0.0 = search rules in
    let unsound = not_checked c.args.chart _ c.in_err-sound.ensures in
    rw same (ap refused (checked_number c.args.chart _ c.in_err-sound.ensures) ∙ lines_declined c.args.chart unsound)

pub returns : goal.returns
unfolding lines_answer_says
returns c =
    let sound = c.in_ok-sound.sound in
    rw (same_checked c.args.chart sound c.in_ok-sound.ensures) at
    (lines_given sound.chart sound.sound c.lines_of_sound.result c.lines_of_sound.ensures)

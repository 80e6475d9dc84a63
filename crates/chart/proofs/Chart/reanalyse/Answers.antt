-- `chart::Chart::reanalyse` meets its contract: 14 first, and then the call on a sound chart.
use mir.Facts.{to_z-of_z}
use Rattle.refusals.specs.Refusal.{refusal_number}
use Rattle.chart.specs.Calls.{reanalysis_says}
use Rattle.chart.proofs.Calls.{not_sound}
use Rattle.chart.proofs.Checked.{not_checked, same_checked}
use Rattle.chart.proofs.Chart.reanalyse.Goals as goal

pub returns-in_default : goal.returns-in_default
unfolding reanalysis_says refusal_number
returns-in_default c = not_sound (not_checked _ _ c.in_default.ensures)

pub returns : goal.returns
returns c =
    let fits = c.ranges in
    rw (same_checked _ _ c.in-Ok.ensures, to_z-of_z fits.a, to_z-of_z fits.b, to_z-of_z fits.c) at c.reanalyse-answer.ensures

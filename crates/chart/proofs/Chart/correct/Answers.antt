-- `chart::Chart::correct` meets its contract: 14 first, and then the call on a sound chart.
use Rattle.refusals.specs.Refusal.{refusal_number}
use Rattle.chart.specs.Calls.{correction_says}
use Rattle.chart.proofs.Calls.{not_sound}
use Rattle.chart.proofs.Checked.{not_checked, same_checked}
use Rattle.chart.proofs.Chart.correct.Goals as goal

pub returns-in_default : goal.returns-in_default
unfolding correction_says refusal_number
returns-in_default c = not_sound (not_checked _ _ c.in_default.ensures)

pub returns : goal.returns
returns c = rw (same_checked _ _ c.in-Ok.ensures) at c.correct-answer.ensures

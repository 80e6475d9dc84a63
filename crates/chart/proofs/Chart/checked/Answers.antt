-- `chart::Chart::checked` meets its contract.
use Rattle.rules.proofs.Booleans.{answered_no, answered_yes}
use Rattle.refusals.specs.Refusal.{refusal_number}
use Rattle.chart.specs.Checked.{chart_says, checked_chart}
use Rattle.chart.proofs.Chart.checked.Goals as goal

pub returns-then-not-sound : goal.returns-then-not-sound
unfolding chart_says checked_chart refusal_number
returns-then-not-sound c = rw (answered_no c.sound.ensures c.if-not-sound.true)

pub returns : goal.returns
unfolding chart_says checked_chart
returns c = rw (answered_yes c.sound.ensures c.if-not-sound.false)

-- What building or reading gave, as a chart or a refusal: the machine's start.
use Rattle.std.specs.Prelude.{◌≡◌, Result}
use Rattle.rules.specs.Outcome.{Outcome, given, refused}
use Rattle.rules.specs.State.{State}
use Rattle.refusals.specs.declared.Refusal.{Refusal}
use Rattle.chart.specs.declared.Chart.{Chart}
use Rattle.chart.specs.declared.sound.SoundChart.{SoundChart}
use Rattle.chart.specs.Chart.{chart_of}
use Rattle.chart.specs.Checked.{chart_says}

-- the chart that stands for an accepted start
unfoldable pub chart_of_start : Outcome State → Outcome Chart
chart_of_start (given s) = given (chart_of s)
chart_of_start (refused n) = refused n

pub record IsHeld (start : Outcome State) (h : Result SoundChart Refusal) : Type 0 where
  pub says : chart_says h ≡ chart_of_start start

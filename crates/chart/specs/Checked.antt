-- What a test of a chart gives: the same chart, known to be sound, or the refusal 14.
use Rattle.std.specs.Prelude.{Result, Ok, Err}
use Rattle.rules.specs.Outcome.{Outcome, given, refused}
use Rattle.rules.specs.Choice.{require}
use Rattle.refusals.specs.Refusal.{refusal_number}
use Rattle.refusals.specs.declared.Refusal.{Refusal}
use Rattle.chart.specs.declared.Chart.{Chart}
use Rattle.chart.specs.declared.sound.SoundChart.{SoundChart}
use Rattle.chart.specs.Soundness.{sound_chart}

-- a result's chart
unfoldable pub chart_says : Result SoundChart Refusal → Outcome Chart
chart_says (Ok s) = given s.chart
chart_says (Err r) = refused (refusal_number r)

unfoldable pub checked_chart : Chart → Outcome Chart
checked_chart c = require (sound_chart c) (refused 14) (given c)

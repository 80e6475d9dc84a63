-- The chart of zeros, which a refused build or read gives. It stands for the state of kind 0 with no words (`zeros_state`), so all its
-- numbers and places are 0. It is not sound (`zeros_not_sound`).
use mathlib.Core.Path.{◌≡◌, refl}
use mathlib.Core.Bool.{false}
use mathlib.Core.List.{[]}
use Rattle.rules.specs.AllOf.{all_of}
use Rattle.rules.specs.Kind.{is_kind}
use Rattle.rules.specs.State.{fresh}
use Rattle.rules.specs.Soundness.{words_sound, sound}
use Rattle.chart.specs.Pad.{pad}
use Rattle.chart.specs.Chart.{state_of, chart_of, fresh_chart, zero_chart}
use Rattle.chart.specs.Soundness.{is_zero, unused_hold_zero, places_sound, sound_chart}

pub zeros_state : zero_chart ≡ chart_of (fresh 0 [])
unfolding zero_chart fresh_chart chart_of fresh pad
zeros_state = refl

-- no sound chart has kind 0
pub zeros_not_sound : sound_chart zero_chart ≡ false
unfolding zero_chart fresh_chart state_of sound_chart places_sound unused_hold_zero is_zero all_of sound words_sound is_kind
zeros_not_sound = refl

-- What a test of a chart says: the refusal of a chart that is not sound, or the same chart.
use mathlib.Core.Path.{◌≡◌, refl, sym}
use mathlib.Core.Bool.{Bool, true, false}
use Rattle.std.specs.Prelude.{ℕ, Ok, Err}
use Rattle.rules.specs.Outcome.{given, refused}
use Rattle.rules.specs.Choice.{require}
use Rattle.rules.proofs.Outcome.{same_given, same_refused, given_not_refused}
use Rattle.refusals.specs.Refusal.{refusal_number}
use Rattle.refusals.specs.declared.Refusal.{Refusal}
use Rattle.chart.specs.declared.Chart.{Chart}
use Rattle.chart.specs.declared.sound.SoundChart.{SoundChart}
use Rattle.chart.specs.Soundness.{sound_chart}
use Rattle.chart.specs.Checked.{chart_says, checked_chart}

refused_by : (b : Bool) (n : ℕ) (c : Chart) → refused n ≡ require b (refused 14) (given c) → b ≡ false
refused_by true n c e = given_not_refused (sym e)
refused_by false n c e = refl

number_by : (b : Bool) (n : ℕ) (c : Chart) → refused n ≡ require b (refused 14) (given c) → n ≡ 14
number_by true n c e = given_not_refused (sym e)
number_by false n c e = same_refused e

given_by : (b : Bool) (d c : Chart) → given d ≡ require b (refused 14) (given c) → d ≡ c
given_by true d c e = same_given e
given_by false d c e = given_not_refused e

pub not_checked : (c : Chart) (r : Refusal) → chart_says (Err r) ≡ checked_chart c → sound_chart c ≡ false
unfolding chart_says checked_chart
not_checked c r e = refused_by (sound_chart c) (refusal_number r) c e

pub checked_number : (c : Chart) (r : Refusal) → chart_says (Err r) ≡ checked_chart c → refusal_number r ≡ 14
unfolding chart_says checked_chart
checked_number c r e = number_by (sound_chart c) (refusal_number r) c e

pub same_checked : (c : Chart) (s : SoundChart) → chart_says (Ok s) ≡ checked_chart c → s.chart ≡ c
unfolding chart_says checked_chart
same_checked c s e = given_by (sound_chart c) s.chart c e

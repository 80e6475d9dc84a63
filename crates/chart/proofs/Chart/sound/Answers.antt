-- `chart::Chart::sound` meets its contract: it decides soundness.
use Rattle.rules.proofs.Booleans.{answered_no, answered_yes}
use Rattle.chart.specs.Soundness.{sound_chart}
use Rattle.chart.proofs.SoundCharts.{places_few}
use Rattle.chart.proofs.Chart.sound.Goals as goal

pub returns-then-not-places_sound : goal.returns-then-not-places_sound
unfolding sound_chart
returns-then-not-places_sound c = rw (answered_no c.places_sound.ensures c.if-not-places_sound.true)

pub state_sound-requires : goal.state_sound-requires
state_sound-requires c = places_few c.args.self (answered_yes c.places_sound.ensures c.if-not-places_sound.false)

pub returns : goal.returns
unfolding sound_chart
returns c = rw (answered_yes c.places_sound.ensures c.if-not-places_sound.false) c.state_sound.ensures

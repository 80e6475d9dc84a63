-- `chart::soundness::places_sound` meets its contract.
use Rattle.chart.specs.Soundness.{places_sound}
use Rattle.chart.proofs.soundness.places_sound.Goals as goal

pub returns : goal.returns
unfolding places_sound
returns c = rw (c.zero_from.ensures, c.zero_from-2.ensures)

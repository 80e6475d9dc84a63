-- `chart::sound::SoundChart::passes_for_last` meets its contract.
use mir.Facts.{to_z-of_z}
use Rattle.chart.proofs.sound.SoundChart.passes_for_last.Goals as goal

pub returns : goal.returns
returns c = rw (c.limits.ensures.same, c.series_words.ensures, to_z-of_z c.ranges.w) at c.passes.ensures

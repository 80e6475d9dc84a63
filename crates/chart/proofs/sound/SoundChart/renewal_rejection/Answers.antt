-- `chart::sound::SoundChart::renewal_rejection` meets its contract.
use Rattle.chart.proofs.sound.SoundChart.renewal_rejection.Goals as goal

pub returns : goal.returns
returns c = rw (c.base_words.ensures, c.series_words.ensures) at c.reject_tail.ensures

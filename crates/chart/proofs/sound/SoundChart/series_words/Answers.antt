-- `chart::sound::SoundChart::series_words` meets its contract.
use mathlib.Core.Path.{refl}
use borrow.Author.Rules.{rules}
use Rattle.chart.specs.Chart.{state_of}
use Rattle.chart.proofs.State.{given}
use Rattle.chart.proofs.sound.SoundChart.series_words.Goals as goal

pub shared_ref_as_front-result : goal.shared_ref_as_front-result
shared_ref_as_front-result c =
    let self = c.args.self.now.chart in
    (given self (search rules) (search rules) c.args.self.now.sound).within.series_few

pub returns : goal.returns
unfolding state_of
returns c = refl

-- `chart::sound::SoundChart::limits` meets its contract.
use native.Mathlib.Omega.{arith}
use borrow.Author.Rules.{rules}
use Rattle.rules.specs.State.{limits_for}
use Rattle.chart.specs.Chart.{state_of}
use Rattle.chart.proofs.State.{Given, given, base_count_lem}
use Rattle.chart.proofs.sound.SoundChart.limits.Goals as goal

pub limits_of-requires : goal.limits_of-requires
unfolding state_of
limits_of-requires c =
    let self = c.args.self.now.chart in
    let sound : Given self = given self (search rules) (search rules) c.args.self.now.sound in
    rw c.base_words.ensures (omega (arith, sound.within.base_few, base_count_lem self sound.within))

pub returns : goal.returns
unfolding limits_for state_of
returns c = record { same = rw c.base_words.ensures at c.limits_of.ensures.same }

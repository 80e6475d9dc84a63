-- `chart::sound::SoundChart::may_renew` meets its contract.
use Rattle.std.specs.Prelude.{◌≡◌, true, false, ◌+◌, leb}
use native.Mathlib.Omega.{arith}
use borrow.Author.Rules.{rules}
use borrow.Author.Tests.{eq-eqb, ne_eqb, le-leb, lt-leb}
use Rattle.refusals.specs.Refusal.{answered_number, refusal_number}
use Rattle.rules.specs.Sizes.{base_wanted}
use Rattle.rules.specs.Machine.{renewal_refusal}
use Rattle.chart.specs.Chart.{state_of}
use Rattle.chart.proofs.State.{Within, given, base_count_lem, series_count_lem}
use Rattle.chart.proofs.sound.SoundChart.may_renew.Goals as goal

pub returns-then-self-ne0 : goal.returns-then-self-ne0
unfolding answered_number refusal_number renewal_refusal state_of
returns-then-self-ne0 c = rw (ne_eqb _ 0 c.if-self-ne0.true)

pub overflow_add-enough : goal.overflow_add-enough
overflow_add-enough c =
    let self = c.args.self.now.chart in
    let within : Within self = (given self (search rules) (search rules) c.args.self.now.sound).within in
    omega (arith, within.base_few, within.series_few)

pub returns-then-not-enough : goal.returns-then-not-enough
unfolding answered_number refusal_number renewal_refusal state_of
returns-then-not-enough c =
    let self = c.args.self.now.chart in
    let within : Within self = (given self (search rules) (search rules) c.args.self.now.sound).within in
    let few : leb base_wanted (self.base_len + self.series_len) ≡ false = lt-leb _ _ c.if-not-enough.true in
    rw (base_count_lem self within, series_count_lem self within, eq-eqb _ 0 c.if-self-ne0.false, few)

pub returns : goal.returns
unfolding answered_number renewal_refusal state_of
returns c =
    let self = c.args.self.now.chart in
    let within : Within self = (given self (search rules) (search rules) c.args.self.now.sound).within in
    let enough : leb base_wanted (self.base_len + self.series_len) ≡ true = le-leb _ _ c.if-not-enough.false in
    rw (base_count_lem self within, series_count_lem self within, eq-eqb _ 0 c.if-self-ne0.false, enough)

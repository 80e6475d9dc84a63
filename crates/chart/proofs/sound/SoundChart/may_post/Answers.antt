-- `chart::sound::SoundChart::may_post` meets its contract.
use Rattle.std.specs.Prelude.{◌≡◌, true, false, ltb}
use borrow.Author.Rules.{rules}
use borrow.Author.Tests.{eq-eqb, ne_eqb, lt-ltb, le-ltb}
use Rattle.refusals.specs.Refusal.{answered_number, refusal_number}
use Rattle.rules.specs.Sizes.{series_most}
use Rattle.rules.specs.Machine.{post_refusal}
use Rattle.chart.specs.Chart.{state_of}
use Rattle.chart.proofs.State.{Within, given, series_count_lem}
use Rattle.chart.proofs.sound.SoundChart.may_post.Goals as goal

pub returns-then-self-ne0 : goal.returns-then-self-ne0
unfolding answered_number refusal_number post_refusal state_of
returns-then-self-ne0 c = rw (ne_eqb _ 0 c.if-self-ne0.true)

pub returns-then-not-room : goal.returns-then-not-room
unfolding answered_number refusal_number post_refusal state_of
returns-then-not-room c =
    let self = c.args.self.now.chart in
    let within : Within self = (given self (search rules) (search rules) c.args.self.now.sound).within in
    let full : ltb self.series_len series_most ≡ false = le-ltb _ _ c.if-not-room.true in
    rw (series_count_lem self within, eq-eqb _ 0 c.if-self-ne0.false, full)

pub returns : goal.returns
unfolding answered_number post_refusal state_of
returns c =
    let self = c.args.self.now.chart in
    let within : Within self = (given self (search rules) (search rules) c.args.self.now.sound).within in
    let room : ltb self.series_len series_most ≡ true = lt-ltb _ _ c.if-not-room.false in
    rw (series_count_lem self within, eq-eqb _ 0 c.if-self-ne0.false, room)

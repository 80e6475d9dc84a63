-- `chart::sound::SoundChart::may_reanalyse` meets its contract.
use borrow.Author.Tests.{eq-eqb, ne_eqb}
use Rattle.refusals.specs.Refusal.{answered_number, refusal_number}
use Rattle.rules.specs.Machine.{reanalysis_refusal}
use Rattle.chart.specs.Chart.{state_of}
use Rattle.chart.proofs.sound.SoundChart.may_reanalyse.Goals as goal

pub returns-then-self-ne1 : goal.returns-then-self-ne1
unfolding answered_number refusal_number reanalysis_refusal state_of
returns-then-self-ne1 c = rw (ne_eqb _ 1 c.if-self-ne1.true)

pub returns : goal.returns
unfolding answered_number reanalysis_refusal state_of
returns c = rw (eq-eqb _ 1 c.if-self-ne1.false)

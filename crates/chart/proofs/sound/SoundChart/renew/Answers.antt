-- `chart::sound::SoundChart::renew` meets its contract.
use mathlib.Core.Path.{◌≡◌, sym}
use borrow.Author.Rules.{rules}
use Rattle.std.specs.Prelude.{Err}
use Rattle.refusals.specs.Refusal.{answered_number, refusal_number}
use Rattle.refusals.proofs.Numbers.{refusal_not_0}
use Rattle.rules.specs.Machine.{renewal, renewed}
use Rattle.chart.specs.Calls.{Gives, renewal_says}
use Rattle.chart.proofs.State.{Given, given}
use Rattle.chart.proofs.Calls.{call_declined, renewal_too_few, renewal_gives}
use Rattle.chart.proofs.StaysSound.{stays_sound}
use Rattle.chart.proofs.sound.SoundChart.renew.Goals as goal

pub returns-in_err-may_renew : goal.returns-in_err-may_renew
unfolding renewal_says answered_number
returns-in_err-may_renew c =
    let self = c.args.self.now.chart in
    let sound : Given self = given self (search rules) (search rules) c.args.self.now.sound in
    let same : c.from_residual.result ≡ Err c.in_err-may_renew.field-0.0 = search rules in
    rw same (call_declined self sound renewal _ c.in_err-may_renew.ensures (refusal_not_0 _))

pub returns-then-left-lt-BASE_WANTED : goal.returns-then-left-lt-BASE_WANTED
unfolding renewal_says answered_number refusal_number
returns-then-left-lt-BASE_WANTED c =
    let self = c.args.self.now.chart in
    let sound : Given self = given self (search rules) (search rules) c.args.self.now.sound in
    renewal_too_few self c.renewal_rejection-r.result sound (sym c.in_ok-may_renew.ensures)
    c.renewal_rejection-r.ensures c.if-left-lt-BASE_WANTED.true

-- the base is the tail's rejection
gives : (c : goal.After-fresh_chart-self) → Gives c.args.self.now.chart renewal c.fresh_chart-self.result
    (renewed c.renewal_rejection-r.result.rounds c.renewal_rejection-r.result.removed)
unfolding answered_number
gives c =
    let self = c.args.self.now.chart in
    let sound : Given self = given self (search rules) (search rules) c.args.self.now.sound in
    renewal_gives self c.renewal_rejection-r.result sound (sym c.in_ok-may_renew.ensures)
    c.renewal_rejection-r.ensures c.if-left-lt-BASE_WANTED.false c.fresh_chart-self.result c.fresh_chart-self.ensures

pub invariant_of-self : goal.invariant_of-self
invariant_of-self c = record { sound = stays_sound c.args.self.now.sound (gives c) }

pub returns : goal.returns
unfolding renewal_says
returns c = gives c.before

-- `chart::sound::SoundChart::correct` meets its contract.
use mathlib.Core.Path.{◌≡◌, refl}
use borrow.Author.Rules.{rules}
use borrow.Author.Tests.{eq-eqb, ne_eqb}
use Rattle.refusals.specs.Refusal.{refusal_number}
use Rattle.rules.specs.Machine.{correction, correction_refusal}
use Rattle.chart.specs.Chart.{state_of, with_status}
use Rattle.chart.specs.Calls.{correction_says}
use Rattle.chart.proofs.State.{Given, given}
use Rattle.chart.proofs.Calls.{call_declined, correction_gives}
use Rattle.chart.proofs.StaysSound.{stays_sound}
use Rattle.chart.proofs.sound.SoundChart.correct.Goals as goal

pub returns-then-self-ne2 : goal.returns-then-self-ne2
unfolding correction_says correction_refusal state_of refusal_number
returns-then-self-ne2 c =
    let self = c.args.self.now.chart in
    let sound : Given self = given self (search rules) (search rules) c.args.self.now.sound in
    let number : 11 ≡ correction_refusal (state_of self) = rw (ne_eqb self.status 2 c.if-self-ne2.true) in
    call_declined self sound correction 11 number (search rules)

pub invariant_of-self : goal.invariant_of-self
unfolding correction_refusal state_of with_status
invariant_of-self c =
    let self = c.args.self.now.chart in
    let sound : Given self = given self (search rules) (search rules) c.args.self.now.sound in
    let none : correction_refusal (state_of self) ≡ 0 = rw (eq-eqb self.status 2 c.if-self-ne2.false) in
    record { sound = stays_sound c.args.self.now.sound (correction_gives self _ sound none refl) }

pub returns : goal.returns
unfolding correction_says correction_refusal state_of with_status
returns c =
    let self = c.args.self.now.chart in
    let sound : Given self = given self (search rules) (search rules) c.args.self.now.sound in
    let none : correction_refusal (state_of self) ≡ 0 = rw (eq-eqb self.status 2 c.if-self-ne2.false) in
    correction_gives self _ sound none refl

-- `outcomes::on_bytes` meets its contract.
use mathlib.Core.Path.{◌≡◌, sym}
use Rattle.store.specs.Store.{read_says}
use Rattle.rules.specs.Outcome.{refused}
use Rattle.rules.specs.ReadForm.{reading}
use Rattle.refusals.specs.Refusal.{refusal_number}
use Rattle.refusals.specs.declared.Refusal.TheVariants.{NoStoredForm}
use Rattle.refusals.proofs.Numbers.{same_refusal}
use Rattle.outcomes.specs.OnFile.{fault_number}
use Rattle.outcomes.proofs.Ending.{ends_in_fault, start_taken, start_declined, reading_refusals}
use Rattle.outcomes.proofs.on_bytes.Goals as goal

pub returns-in-Ok : goal.returns-in-Ok
returns-in-Ok c =
    rw (start_taken _ c.read-read.result c.read-read.ensures c.in-Ok.is) c.on_chart.ensures

pub returns-in-NoStoredForm : goal.returns-in-NoStoredForm
unfolding fault_number refusal_number
returns-in-NoStoredForm c =
    rw (start_declined _ c.read-read.result c.read-read.ensures _ c.in-Err.is, c.in-NoStoredForm.is) (ends_in_fault _ c.fault.ensures)

pub returns-in_default : goal.returns-in_default
unfolding fault_number refusal_number read_says
returns-in_default c =
    let says : refused (refusal_number c.in-Err.refusal) ≡ reading c.args.held.now = rw c.in-Err.is at c.read-read.ensures.says in
    let unsound : refusal_number c.in-Err.refusal ≡ 14 =
    reading_refusals _ _ (sym says) (λ e. c.in_default.not-NoStoredForm (same_refusal c.in-Err.refusal NoStoredForm e)) in
    rw (start_declined _ c.read-read.result c.read-read.ensures _ c.in-Err.is, unsound) (ends_in_fault _ c.fault-in_default.ensures)

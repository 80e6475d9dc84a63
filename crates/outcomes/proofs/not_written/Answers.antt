-- `outcomes::not_written` meets its contract.
use borrow.Author.Tests.{ne_eqb}
use Rattle.refusals.specs.Refusal.{refusal_number}
use Rattle.refusals.specs.declared.Refusal.TheVariants.{NotSound}
use Rattle.refusals.proofs.Numbers.{same_refusal}
use Rattle.outcomes.specs.OnFile.{not_written}
use Rattle.outcomes.proofs.not_written.Goals as goal

pub returns-in-NotSound : goal.returns-in-NotSound
unfolding not_written refusal_number
returns-in-NotSound c = rw c.in-NotSound.is

pub returns-in_default : goal.returns-in_default
unfolding not_written refusal_number
returns-in_default c =
    rw (ne_eqb (refusal_number c.args.refusal) 14 (λ e. c.in_default.not-NotSound (same_refusal c.args.refusal NotSound e)))

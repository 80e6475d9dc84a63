-- `store::read` meets its contract: without a layout it refuses with 13.
use Rattle.refusals.specs.Refusal.{refusal_number}
use Rattle.store.proofs.Reading.{read_no_form, read_declined}
use Rattle.store.proofs.read.Goals as goal

pub returns-in_default : goal.returns-in_default
unfolding refusal_number
returns-in_default c = read_declined _ 13 _ (read_no_form _ c.in_default.ensures) c.declined_read.ensures

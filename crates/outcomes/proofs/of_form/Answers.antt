-- `outcomes::of_form` meets its contract.
use Rattle.outcomes.specs.OnFile.{of_form}
use Rattle.outcomes.proofs.of_form.Goals as goal

pub returns-then-same_bytes : goal.returns-then-same_bytes
unfolding of_form
returns-then-same_bytes c = rw (← c.same_bytes.ensures, c.if-same_bytes.true)

pub returns : goal.returns
unfolding of_form
returns c = rw (← c.same_bytes.ensures, c.if-same_bytes.false)

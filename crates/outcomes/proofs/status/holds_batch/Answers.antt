-- `outcomes::status::holds_batch` meets its contract.
use Rattle.outcomes.specs.Status.{holds_batch}
use Rattle.outcomes.proofs.status.holds_batch.Goals as goal

pub returns : goal.returns
unfolding holds_batch
returns c = rw (c.begins_with.ensures, c.holds_by_end.ensures)

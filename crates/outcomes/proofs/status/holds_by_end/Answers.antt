-- `outcomes::status::holds_by_end` meets its contract.
use Rattle.outcomes.specs.Status.{holds_by_end}
use Rattle.outcomes.proofs.status.holds_by_end.Goals as goal

pub returns : goal.returns
unfolding holds_by_end
returns c =
    rw (
      c.ends_with.ensures,
      c.ends_with-2.ensures,
      c.ends_with-3.ensures,
      c.ends_with-4.ensures,
      c.ends_with-5.ensures,
    )

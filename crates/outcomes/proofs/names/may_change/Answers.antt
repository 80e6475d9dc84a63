-- `outcomes::names::may_change` meets its contract.
use mathlib.Core.Path.{sym, ap, ◌∙◌}
use Rattle.outcomes.specs.Naming.{changes, may_change}
use Rattle.outcomes.proofs.names.may_change.Goals as goal

pub returns-in-Changes : goal.returns-in-Changes
unfolding may_change
returns-in-Changes c = ap changes (sym c.in-Changes.is ∙ c.name_of-name.ensures)

pub returns-in-Asks : goal.returns-in-Asks
unfolding may_change
returns-in-Asks c = ap changes (sym c.in-Asks.is ∙ c.name_of-name.ensures)

pub returns-in-Other : goal.returns-in-Other
unfolding may_change
returns-in-Other c = ap changes (sym c.in-Other.is ∙ c.name_of-name.ensures)

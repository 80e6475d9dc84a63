-- `outcomes::names::is_name` meets its contract.
use mathlib.Core.Path.{sym, ap, ◌∙◌}
use Rattle.outcomes.specs.Naming.{is_command_name, is_name}
use Rattle.outcomes.proofs.Named.{some_name}
use Rattle.outcomes.proofs.names.is_name.Goals as goal

pub returns-in-Other : goal.returns-in-Other
unfolding is_name
returns-in-Other c = ap is_command_name (sym c.in-Other.is ∙ c.name_in-name.ensures)

pub returns-in_default : goal.returns-in_default
unfolding is_name
returns-in_default c = some_name c.name_in-name.result c.in_default.not-Other ∙ ap is_command_name c.name_in-name.ensures

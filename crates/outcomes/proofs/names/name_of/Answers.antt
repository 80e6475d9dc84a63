-- `outcomes::names::name_of` meets its contract.
use mathlib.Core.Path.{ap, ◌∙◌}
use Rattle.commands.specs.Command.{name_in}
use Rattle.commands.proofs.Fields.{first_is}
use Rattle.outcomes.specs.Naming.{name_of}
use Rattle.outcomes.proofs.names.name_of.Goals as goal

pub returns : goal.returns
unfolding name_of
returns c = c.name_in.ensures ∙ ap name_in (first_is _ c.split_field.ensures.split)

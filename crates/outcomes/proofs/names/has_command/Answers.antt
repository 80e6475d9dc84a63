-- `outcomes::names::has_command` meets its contract.
use Rattle.std.proofs.Common.{rules, tests}
use Rattle.outcomes.proofs.Named.{no_field, a_field}
use Rattle.outcomes.proofs.names.has_command.Goals as goal

pub returns-then-not-is_empty : goal.returns-then-not-is_empty
returns-then-not-is_empty c = a_field c.split_field.ensures.split (search (rules, tests))

pub returns-else-not-is_empty : goal.returns-else-not-is_empty
returns-else-not-is_empty c = rw c.if-not-is_empty.false (no_field c.split_field.ensures.split (search (rules, tests)))

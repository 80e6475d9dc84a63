-- `commands::faults::end_fault` meets its contract.
use Rattle.std.proofs.Common.{rules, tests}
use Rattle.commands.proofs.FirstFault.{no_end, end_found}
use Rattle.commands.proofs.faults.end_fault.Goals as goal

pub returns-then-not-is_empty : goal.returns-then-not-is_empty
returns-then-not-is_empty c = no_end _ c.split_field.ensures.split (search (rules, tests))

pub returns : goal.returns
returns c = end_found _ c.split_field.ensures.split (search (rules, tests))

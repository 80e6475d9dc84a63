-- `commands::faults::reading_fault` meets its contract.
use Rattle.commands.proofs.faults.reading_fault.Goals as goal

pub returns : goal.returns
returns c = c.field_fault.ensures

-- `commands::faults::number_fault` meets its contract.
use Rattle.commands.proofs.faults.number_fault.Goals as goal

pub returns : goal.returns
returns c = c.field_fault.ensures

-- `commands::faults::fault_for` meets its contract.
use Rattle.commands.proofs.faults.fault_for.Goals as goal

pub returns-in-Changes : goal.returns-in-Changes
returns-in-Changes c = rw c.in-Changes.is c.change_fault.ensures

pub returns-in-Asks : goal.returns-in-Asks
returns-in-Asks c = rw c.in-Asks.is c.inquiry_fault.ensures

pub returns-in-Other : goal.returns-in-Other
returns-in-Other c = rw c.in-Other.is

-- `outcomes::FileFault::text` meets its contract.
use Rattle.outcomes.specs.OnFile.{fault_number, fault_text}
use Rattle.outcomes.proofs.FileFault.text.Goals as goal

pub returns-in-NoCommand : goal.returns-in-NoCommand
unfolding fault_number fault_text
returns-in-NoCommand c = rw c.in-NoCommand.is

pub returns-in-NoFile : goal.returns-in-NoFile
unfolding fault_number fault_text
returns-in-NoFile c = rw c.in-NoFile.is

pub returns-in-NoStoredForm : goal.returns-in-NoStoredForm
unfolding fault_number fault_text
returns-in-NoStoredForm c = rw c.in-NoStoredForm.is

pub returns-in-NotSound : goal.returns-in-NotSound
unfolding fault_number fault_text
returns-in-NotSound c = rw c.in-NotSound.is

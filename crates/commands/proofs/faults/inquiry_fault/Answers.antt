-- `commands::faults::inquiry_fault` meets its contract, by the command's name.
use Rattle.commands.proofs.faults.inquiry_fault.Goals as goal

pub returns-in-Word : goal.returns-in-Word
returns-in-Word c = rw c.in-Word.is c.readings_fault.ensures

pub returns-in-Lines : goal.returns-in-Lines
returns-in-Lines c = rw c.in-Lines.is c.end_fault.ensures

pub returns-in-Write : goal.returns-in-Write
returns-in-Write c = rw c.in-Write.is c.end_fault-in-Write.ensures

pub returns-in-Show : goal.returns-in-Show
returns-in-Show c = rw c.in-Show.is c.end_fault-in-Show.ensures

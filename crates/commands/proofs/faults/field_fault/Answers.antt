-- `commands::faults::field_fault` meets its contract.
use Rattle.parsing.specs.Number.{number_says}
use Rattle.commands.specs.Answers.{fault_in}
use Rattle.commands.proofs.faults.field_fault.Goals as goal

pub returns-then-is_empty : goal.returns-then-is_empty
unfolding fault_in
returns-then-is_empty c = rw (← c.is_empty.ensures, c.if-is_empty.true)

pub returns-in-Ok : goal.returns-in-Ok
unfolding fault_in number_says
returns-in-Ok c = rw (← c.is_empty.ensures, c.if-is_empty.false, ← c.number_in_field.ensures, c.in-Ok.is)

pub returns-in-NoNumber : goal.returns-in-NoNumber
unfolding fault_in number_says
returns-in-NoNumber c = rw (← c.is_empty.ensures, c.if-is_empty.false, ← c.number_in_field.ensures, c.in-Err.is, c.in-NoNumber.is)

pub returns-in-Beyond : goal.returns-in-Beyond
unfolding fault_in number_says
returns-in-Beyond c = rw (← c.is_empty.ensures, c.if-is_empty.false, ← c.number_in_field.ensures, c.in-Err.is, c.in-Beyond.is)

-- `commands::faults::readings_fault` meets its contract: the first fault, if there is one, is that of the fields.
use mathlib.Core.Path.{◌≡◌}
use Rattle.std.proofs.Common.{rules}
use Rattle.std.specs.Prelude.{Err}
use Rattle.commands.specs.Command.{readings_fault}
use Rattle.commands.proofs.FirstFault.{kind_found, first_reading, second_reading, third_reading, end_of_readings}
use Rattle.commands.proofs.faults.readings_fault.Goals as goal

pub returns-in_err-number_fault : goal.returns-in_err-number_fault
unfolding readings_fault
returns-in_err-number_fault c =
    let same : c.from_residual.result ≡ Err c.in_err-number_fault.field-0.0 = search rules in
    rw (
      same,
      kind_found c.split_field.ensures.split c.in_err-number_fault.ensures,
    )

pub returns-in_err-reading_fault : goal.returns-in_err-reading_fault
unfolding readings_fault
returns-in_err-reading_fault c =
    let same : c.from_residual-in_err-reading_fault.result ≡ Err c.in_err-reading_fault.field-0.0 = search rules in
    rw (
      same,
      kind_found c.split_field.ensures.split c.in_ok-number_fault.ensures,
      first_reading c.split_field.ensures.split c.split_field-2.ensures.split c.in_err-reading_fault.ensures,
    )

pub returns-in_err-reading_fault-2 : goal.returns-in_err-reading_fault-2
unfolding readings_fault
returns-in_err-reading_fault-2 c =
    let same : c.from_residual-in_err-reading_fault-2.result ≡ Err c.in_err-reading_fault-2.field-0.0 = search rules in
    rw (
      same,
      kind_found c.split_field.ensures.split c.in_ok-number_fault.ensures,
      first_reading c.split_field.ensures.split c.split_field-2.ensures.split c.in_ok-reading_fault.ensures,
      second_reading c.split_field.ensures.split c.split_field-2.ensures.split c.split_field-3.ensures.split c.in_err-reading_fault-2.ensures,
    )

pub returns-in_err-reading_fault-3 : goal.returns-in_err-reading_fault-3
unfolding readings_fault
returns-in_err-reading_fault-3 c =
    let same : c.from_residual-in_err-reading_fault-3.result ≡ Err c.in_err-reading_fault-3.field-0.0 = search rules in
    rw (
      same,
      kind_found c.split_field.ensures.split c.in_ok-number_fault.ensures,
      first_reading c.split_field.ensures.split c.split_field-2.ensures.split c.in_ok-reading_fault.ensures,
      second_reading c.split_field.ensures.split c.split_field-2.ensures.split c.split_field-3.ensures.split c.in_ok-reading_fault-2.ensures,
      third_reading c.split_field.ensures.split c.split_field-2.ensures.split c.split_field-3.ensures.split c.split_field-4.ensures.split c.in_err-reading_fault-3.ensures,
    )

pub returns : goal.returns
unfolding readings_fault
returns c =
    rw (
      kind_found c.split_field.ensures.split c.in_ok-number_fault.ensures,
      first_reading c.split_field.ensures.split c.split_field-2.ensures.split c.in_ok-reading_fault.ensures,
      second_reading c.split_field.ensures.split c.split_field-2.ensures.split c.split_field-3.ensures.split c.in_ok-reading_fault-2.ensures,
      third_reading c.split_field.ensures.split c.split_field-2.ensures.split c.split_field-3.ensures.split c.split_field-4.ensures.split c.in_ok-reading_fault-3.ensures,
      end_of_readings c.split_field.ensures.split c.split_field-2.ensures.split c.split_field-3.ensures.split c.split_field-4.ensures.split
          c.end_fault.ensures,
    )

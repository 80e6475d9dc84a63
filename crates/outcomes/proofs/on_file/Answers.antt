-- `outcomes::on_file` meets its contract.
use Rattle.std.specs.Prelude.{option_copied}
use Rattle.outcomes.specs.OnFile.{held_in, fault_number}
use Rattle.outcomes.proofs.Ending.{ends_in_fault, start_without, start_with, and_counted}
use Rattle.outcomes.proofs.on_file.Goals as goal

pub returns-then-not-has_command : goal.returns-then-not-has_command
unfolding fault_number
returns-then-not-has_command c =
    let held = held_in (option_copied c.args.held) in
    let all = and_counted (ends_in_fault _ c.fault.ensures) in
    record { ends = rw (start_without held _ c.has_command.ensures c.if-not-has_command.true) all.0; form_counted = all.1.0; text_counted = all.1.1 }

pub returns-in-Some : goal.returns-in-Some
returns-in-Some c =
    let all = and_counted c.on_bytes.ensures in
    let from = start_with (held_in (option_copied c.args.held)) _ c.has_command.ensures c.if-not-has_command.false in
    record { ends = rw (from, c.in-Some.is) all.0; form_counted = all.1.0; text_counted = all.1.1 }

pub returns-in-None : goal.returns-in-None
returns-in-None c =
    let all = and_counted c.on_no_file.ensures in
    let from = start_with (held_in (option_copied c.args.held)) _ c.has_command.ensures c.if-not-has_command.false in
    record { ends = rw (from, c.in-None.is) all.0; form_counted = all.1.0; text_counted = all.1.1 }

-- `commands::faults::read_fault` meets its contract.
use mathlib.Core.Path.{◌≡◌, sym, ap, ◌∙◌}
use Rattle.std.proofs.Common.{rules}
use Rattle.std.specs.Prelude.{Err}
use Rattle.commands.specs.Command.{hex_fault, end_fault, read_fault}
use Rattle.commands.proofs.Fields.{first_is, rest_is}
use Rattle.commands.proofs.faults.read_fault.Goals as goal

pub returns-in_err-hex_fault : goal.returns-in_err-hex_fault
unfolding read_fault
returns-in_err-hex_fault c =
    let same : c.from_residual.result ≡ Err c.in_err-hex_fault.field-0.0 = search rules in
    let found = c.split_field.ensures.split in
    rw (same, sym (c.in_err-hex_fault.ensures ∙ ap hex_fault (first_is _ found)))

pub returns : goal.returns
unfolding read_fault
returns c =
    let found = c.split_field.ensures.split in
    rw (sym (c.in_ok-hex_fault.ensures ∙ ap hex_fault (first_is _ found))) (c.end_fault.ensures ∙ ap end_fault (rest_is _ found))

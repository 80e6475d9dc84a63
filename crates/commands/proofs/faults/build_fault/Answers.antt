-- `commands::faults::build_fault` meets its contract.
use mathlib.Core.Path.{◌≡◌, ap, ◌∙◌}
use Rattle.std.proofs.Common.{rules}
use Rattle.std.specs.Prelude.{Err}
use Rattle.commands.specs.Command.{build_fault, words_fault}
use Rattle.commands.proofs.FirstFault.{kind_found}
use Rattle.commands.proofs.Fields.{rest_is}
use Rattle.commands.proofs.faults.build_fault.Goals as goal

pub returns-in_err-number_fault : goal.returns-in_err-number_fault
unfolding build_fault
returns-in_err-number_fault c =
    let same : c.from_residual.result ≡ Err c.in_err-number_fault.field-0.0 = search rules in
    rw (same, kind_found c.split_field.ensures.split c.in_err-number_fault.ensures)

pub returns : goal.returns
unfolding build_fault
returns c =
    let found = c.split_field.ensures.split in
    rw (kind_found found c.in_ok-number_fault.ensures) (c.words_fault.ensures ∙ ap words_fault (rest_is _ found))

-- `commands::numbers::readings_in` meets its contract.
use mir.Syntax.{w64}
use mathlib.Core.Path.{◌∙◌}
use borrow.Author.Rules.{sfits_of}
use mir.Facts.{to_z-of_z}
use Rattle.commands.proofs.Fields.{readings_found}
use Rattle.commands.proofs.numbers.readings_in.Goals as goal

pub returns : goal.returns
returns c =
    readings_found c.split_field.ensures.split c.split_field-2.ensures.split c.split_field-3.ensures.split c.split_field-4.ensures.split
    (rw c.number_in_field.ensures at c.kind_in_field.ensures)
    (rw c.number_in_field-2.ensures at (to_z-of_z {w = w64} (sfits_of c.reading_in_field.type_inv) ∙ c.reading_in_field.ensures))
    (rw c.number_in_field-3.ensures at (to_z-of_z {w = w64} (sfits_of c.reading_in_field-2.type_inv) ∙ c.reading_in_field-2.ensures))
    (rw c.number_in_field-4.ensures at (to_z-of_z {w = w64} (sfits_of c.reading_in_field-3.type_inv) ∙ c.reading_in_field-3.ensures))

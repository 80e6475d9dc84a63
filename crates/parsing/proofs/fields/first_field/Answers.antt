-- `parsing::fields::first_field` meets its contract.
use Rattle.parsing.proofs.FirstField.{first_field_lem}
use Rattle.parsing.proofs.fields.first_field.Goals as goal

pub returns : goal.returns
returns c = first_field_lem c.after_blanks-start.ensures c.after_field-end.ensures

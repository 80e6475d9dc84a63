-- `parsing::fields::split_field` meets its contract.
use Rattle.parsing.proofs.FirstField.{split_places, field_split}
use Rattle.parsing.proofs.fields.split_field.Goals as goal

pub returns : goal.returns
returns c = let field = c.first_field-field.ensures in record { places = split_places field; split = field_split field }

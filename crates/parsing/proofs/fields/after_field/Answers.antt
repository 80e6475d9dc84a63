-- `parsing::fields::after_field` meets its contract.
use Rattle.std.proofs.Common.{rules, tests}
use Rattle.std.proofs.lemmas.Iterator.{YieldsList-from_slice}
use Rattle.std.proofs.lemmas.Iterator.Search.{position_from_yields_List}
use Rattle.parsing.specs.Fields.{is_blank}
use Rattle.parsing.proofs.FirstField.{field_end}
use Rattle.parsing.proofs.fields.after_field.Goals as goal

pub returns : goal.returns
returns c =
    let items = YieldsList-from_slice _ c.iter.ensures.rest in
    let first = position_from_yields_List is_blank _ _ c.position.result c.position.ensures.ran items (λ x b q k. search (rules, tests)) in
    rw c.unwrap_or.ensures (field_end c.args.text.now c.args.start c.requires first)

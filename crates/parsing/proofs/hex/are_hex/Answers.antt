-- `parsing::hex::are_hex` meets its contract.
use mathlib.Core.Path.{sym, ◌∙◌}
use Rattle.std.proofs.Common.{rules, tests}
use Rattle.std.proofs.lemmas.Iterator.{YieldsList-from_slice}
use Rattle.std.proofs.lemmas.Iterator.Search.{all_from_yields_List}
use Rattle.parsing.specs.Hex.{is_hex, are_hex}
use Rattle.parsing.proofs.Tests.{all_is}
use Rattle.parsing.proofs.hex.are_hex.Goals as goal

pub returns : goal.returns
unfolding are_hex
returns c =
    let text = c.args.text.now in
    all_from_yields_List is_hex _ _ c.all.result c.all.ensures.ran (YieldsList-from_slice text cc) (λ x b q k. search (rules, tests))
    ∙ sym (all_is is_hex text)

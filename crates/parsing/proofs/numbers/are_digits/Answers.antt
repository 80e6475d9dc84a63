-- `parsing::numbers::are_digits` meets its contract.
use mathlib.Core.Path.{sym, ◌∙◌}
use Rattle.std.proofs.Common.{rules, tests}
use Rattle.std.proofs.lemmas.Iterator.{YieldsList-from_slice}
use Rattle.std.proofs.lemmas.Iterator.Search.{all_from_yields_List}
use Rattle.parsing.specs.Number.{is_digit, are_digits}
use Rattle.parsing.proofs.Tests.{all_is}
use Rattle.parsing.proofs.numbers.are_digits.Goals as goal

pub returns-then-not-is_empty : goal.returns-then-not-is_empty
unfolding are_digits
returns-then-not-is_empty c =
    let text = c.args.text.now in
    rw (sym c.is_empty.ensures ∙ c.if-not-is_empty.true)
    (all_from_yields_List is_digit _ _ c.all.result c.all.ensures.ran (YieldsList-from_slice text cc) (λ x b q k. search (rules, tests))
    ∙ sym (all_is is_digit text))

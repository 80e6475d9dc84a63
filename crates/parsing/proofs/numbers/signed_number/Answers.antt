-- `parsing::numbers::signed_number` meets its contract.
use mathlib.Core.Path.{◌∙◌, ap}
use Rattle.parsing.specs.Number.{number_says}
use Rattle.parsing.proofs.Signed.{held_negative, held_positive}
use Rattle.parsing.proofs.numbers.signed_number.Goals as goal

pub returns-then-negative : goal.returns-then-negative
returns-then-negative c =
    rw c.if-negative.true (ap number_says c.ok_or.ensures.value ∙ held_negative c.args.n _ c.checked_sub_unsigned.ensures)

pub returns : goal.returns
returns c =
    rw (c.if-negative.false, c.ok_or-2.ensures.value, c.ok.ensures.value) (held_positive c.args.n _ c.try_from.ensures)

-- `parsing::numbers::digits_number` meets its contract.
use mathlib.Core.Path.{sym, ◌∙◌, ap}
use Rattle.parsing.specs.Number.{value_of, signed_value, digits_number, number_says}
use Rattle.parsing.proofs.Values.{signed_counted}
use Rattle.parsing.proofs.numbers.digits_number.Goals as goal

pub returns-then-not-are_digits : goal.returns-then-not-are_digits
unfolding number_says digits_number
returns-then-not-are_digits c = rw (sym c.are_digits.ensures ∙ c.if-not-are_digits.true)

pub value_of-requires : goal.value_of-requires
value_of-requires c = sym c.are_digits.ensures ∙ c.if-not-are_digits.false

pub returns : goal.returns
unfolding digits_number
returns c =
    let args = c.args in
    rw (sym c.are_digits.ensures ∙ c.if-not-are_digits.false)
    (c.signed_number.ensures
    ∙ ap (signed_value args.negative) c.value_of.ensures
    ∙ signed_counted args.negative (value_of args.digits.now))

-- `parsing::numbers::number_in_field` meets its contract.
use mathlib.Core.Path.{sym, ◌∙◌}
use native.Mathlib.Omega.{arith}
use Rattle.parsing.specs.Number.{number_says}
use Rattle.parsing.proofs.Signed.{no_byte, minus_sign, no_sign}
use Rattle.parsing.proofs.numbers.number_in_field.Goals as goal

pub returns-in-empty : goal.returns-in-empty
unfolding number_says
returns-in-empty c = no_byte c.args.text.now (omega arith)

pub returns-in-45 : goal.returns-in-45
returns-in-45 c = c.digits_number.ensures ∙ sym (minus_sign c.args.text.now (λ e. omega arith) (omega arith))

pub returns-in_default : goal.returns-in_default
returns-in_default c = c.digits_number-in_default.ensures ∙ sym (no_sign c.args.text.now (λ e. omega arith) (λ e. omega arith))

-- `parsing::numbers::value_of` meets its contract.
use native.Mathlib.Omega.{arith}
use Rattle.parsing.proofs.Tests.{digit_at}
use Rattle.parsing.proofs.numbers.value_of.Goals as goal

pub with_digit-n-requires : goal.with_digit-n-requires
with_digit-n-requires c =
    (digit_at c.args.digits.now c.loop-d.d-index c.requires c.loop-d-test.true, omega arith)

-- `printing::numbers::put_signed` meets its contract: the sign, and the magnitude after it.
use Rattle.printing.specs.Decimal.{decimal, signed_decimal}
use Rattle.printing.proofs.Signs.{puts_signed}
use Rattle.printing.proofs.numbers.put_signed.Goals as goal

pub returns : goal.returns
unfolding signed_decimal
returns c =
    puts_signed c.args.z c.ranges.z decimal c.unsigned_abs.ensures.value c.put_sign-next.ensures
    c.put_decimal.ensures

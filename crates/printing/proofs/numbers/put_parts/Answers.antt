-- `printing::numbers::put_parts` meets its contract: the sign, the whole part, the point and the decimals, one after the other.
use Rattle.printing.specs.Decimal.{parts_natural, parts_decimal}
use Rattle.printing.proofs.Putting.{puts_then}
use Rattle.printing.proofs.Signs.{puts_signed}
use Rattle.printing.proofs.numbers.put_parts.Goals as goal

pub returns : goal.returns
unfolding parts_decimal parts_natural
returns c =
    puts_signed c.args.k c.ranges.k parts_natural c.unsigned_abs-n.ensures.value c.put_sign-after_sign.ensures
    (puts_then c.put_decimal-after_whole.ensures (puts_then c.put_byte-after_point.ensures c.put_last_digits.ensures))

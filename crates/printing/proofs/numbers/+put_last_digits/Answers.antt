-- `printing::numbers::put_last_digits` meets its contract: no digits, or all digits but the last, and then the last.
use Rattle.std.proofs.Common.{arith}
use Rattle.printing.specs.Decimal.{last_digits}
use Rattle.printing.proofs.Putting.{puts_none, puts_then}
use Rattle.printing.proofs.Digits.{last_digits_more}
use Rattle.printing.proofs.numbers.+put_last_digits.Goals as goal

pub returns-then-count-eq0 : goal.returns-then-count-eq0
unfolding last_digits
returns-then-count-eq0 t c = rw c.if-count-eq0.true (puts_none c.args.out.now c.args.at)

pub returns : goal.returns
returns t c =
    rw (last_digits_more c.args.count c.args.n (omega arith))
    (puts_then c.put_last_digits-next.ensures c.put_digit.ensures)

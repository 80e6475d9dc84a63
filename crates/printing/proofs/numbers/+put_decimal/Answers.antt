-- `printing::numbers::put_decimal` meets its contract: one digit, or the digits of n / 10 and then the last one.
use Rattle.printing.proofs.Putting.{puts_then}
use Rattle.printing.proofs.Digits.{decimal_small, decimal_more}
use Rattle.printing.proofs.numbers.+put_decimal.Goals as goal

pub returns-then-n-lt10 : goal.returns-then-n-lt10
returns-then-n-lt10 t c = rw (decimal_small c.args.n c.if-n-lt10.true) c.put_digit.ensures

pub returns : goal.returns
returns t c =
    rw (decimal_more c.args.n c.if-n-lt10.false) (puts_then c.put_decimal-next.ensures c.put_digit-2.ensures)

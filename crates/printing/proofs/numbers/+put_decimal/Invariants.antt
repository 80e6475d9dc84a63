-- The measure is the number: n / 10 is below n if n has two or more digits.
use Rattle.printing.proofs.numbers.+put_decimal.Given as goal

abbrev pub decreases-put_decimal : goal.decreases-put_decimal
decreases-put_decimal l = l.n

-- The measure is the number of digits.
use Rattle.printing.proofs.numbers.+put_last_digits.Given as goal

abbrev pub decreases-put_last_digits : goal.decreases-put_last_digits
decreases-put_last_digits l = l.count

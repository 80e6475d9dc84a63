-- `printing::numbers::put_digit` meets its contract: the byte put is the digit's code.
use Rattle.printing.proofs.numbers.put_digit.Goals as goal

pub returns : goal.returns
returns c = c.put_byte.ensures

-- `printing::put_byte` meets its contract: the byte is put if there is room, and left out otherwise.
use Rattle.printing.proofs.Putting.{puts_byte, puts_left_out}
use Rattle.printing.proofs.put_byte.Goals as goal

pub returns-then-at-out : goal.returns-then-at-out
returns-then-at-out c = let a = c.args in puts_byte a.out.now a.at a.b c.if-at-out.true

pub returns : goal.returns
returns c = let a = c.args in puts_left_out a.out.now a.at a.b c.if-at-out.false

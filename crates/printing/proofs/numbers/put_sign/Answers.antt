-- `printing::numbers::put_sign` meets its contract.
use borrow.Author.Rules.{rules}
use Rattle.printing.proofs.Putting.{puts_none}
use Rattle.printing.proofs.Signs.{held_not_below}
use Rattle.printing.proofs.numbers.put_sign.Goals as goal

pub returns : goal.returns
returns c =
    rw (held_not_below c.args.z c.ranges.z (search rules)) (puts_none c.args.out.now c.args.at)

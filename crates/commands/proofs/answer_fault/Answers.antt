-- `commands::answer_fault` meets its contract.
use mathlib.Core.Path.{refl}
use Rattle.printing.proofs.Putting.{puts_then}
use Rattle.commands.proofs.answer_fault.Goals as goal

pub returns : goal.returns
returns c =
    record { chart = refl; text = puts_then c.put_fault-at.ensures c.put_byte-size.ensures }

-- `commands::perform` meets its contract.
use mathlib.Core.Path.{refl}
use Rattle.commands.specs.Command.{command_for}
use Rattle.commands.proofs.Replying.{replies_inquiry}
use Rattle.commands.proofs.perform.Goals as goal

pub returns-in-Changes : goal.returns-in-Changes
unfolding command_for
returns-in-Changes c = rw c.in-Changes.is c.make_change.ensures

pub returns-in-Asks : goal.returns-in-Asks
unfolding command_for
returns-in-Asks c =
    rw c.in-Asks.is (replies_inquiry _ _ _ c.put_inquiry-size.ensures)

pub returns-in-Other : goal.returns-in-Other
unfolding command_for
returns-in-Other c =
    rw c.in-Other.is (record { chart = refl; text = c.put_fault-size.ensures })

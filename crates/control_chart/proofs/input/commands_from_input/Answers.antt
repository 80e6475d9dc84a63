-- `control_chart::input::commands_from_input` meets its contract.
use mathlib.Core.Path.{refl}
use Rattle.control_chart.specs.Input.{at_start}
use Rattle.control_chart.proofs.Taking.{held_start}
use Rattle.control_chart.proofs.input.commands_from_input.Goals as goal

pub returns : goal.returns
returns c =
    let came = c.take_all-last.ensures in
    let start = held_start _ _ c.zero_chart.ensures refl refl in
    record { bytes = came.bytes; failed = came.failed; end = c.end_input.ensures _ (came.follows at_start start) }

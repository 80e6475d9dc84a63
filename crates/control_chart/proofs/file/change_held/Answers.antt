-- `control_chart::file::change_held` meets its contract.
use mathlib.Core.Path.{ap}
use native.Mathlib.Omega.{arith}
use Rattle.control_chart.specs.Status.{is_answered, answered}
use Rattle.control_chart.proofs.Statuses.{of_ending}
use Rattle.control_chart.proofs.file.change_held.Goals as goal

pub returns-in-Changed : goal.returns-in-Changed
returns-in-Changed c = of_ending c.on_file-r.ensures.ends (omega arith) (answered (ap is_answered c.in-Changed.is) c.keep.ensures)

pub returns-in_default : goal.returns-in_default
returns-in_default c = of_ending c.on_file-r.ensures.ends (omega arith) c.say_outcome.ensures

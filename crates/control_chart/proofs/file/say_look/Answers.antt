-- `control_chart::file::say_look` meets its contract.
use native.Mathlib.Omega.{arith}
use Rattle.control_chart.proofs.Statuses.{of_ending}
use Rattle.control_chart.proofs.file.say_look.Goals as goal

pub returns : goal.returns
returns c = of_ending c.on_file-r.ensures.ends (omega arith) c.say_outcome.ensures

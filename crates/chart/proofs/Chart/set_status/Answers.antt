-- `chart::Chart::set_status` meets its contract.
use mathlib.Core.Path.{refl}
use Rattle.chart.specs.Chart.{with_status}
use Rattle.chart.proofs.Chart.set_status.Goals as goal

pub returns : goal.returns
unfolding with_status
returns c = refl

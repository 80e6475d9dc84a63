-- `chart::fresh_chart` meets its contract.
use mathlib.Core.Path.{refl}
use Rattle.chart.specs.Chart.{fresh_chart}
use Rattle.chart.proofs.fresh_chart.Goals as goal

pub returns : goal.returns
unfolding fresh_chart
returns c = refl

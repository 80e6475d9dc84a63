-- `chart::zero_chart` meets its contract.
use Rattle.chart.specs.Chart.{zero_chart}
use Rattle.chart.proofs.zero_chart.Goals as goal

pub returns : goal.returns
unfolding zero_chart
returns c = c.fresh_chart.ensures

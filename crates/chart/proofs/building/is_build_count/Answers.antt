-- `chart::building::is_build_count` meets its contract.
use mathlib.Core.Path.{refl}
use Rattle.rules.specs.Building.{is_build_count}
use Rattle.chart.proofs.building.is_build_count.Goals as goal

pub returns : goal.returns
unfolding is_build_count
returns c = refl

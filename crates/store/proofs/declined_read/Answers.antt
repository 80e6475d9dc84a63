-- `store::declined_read` meets its contract.
use mathlib.Core.Path.{refl}
use Rattle.store.specs.Store.{read_says, chart_after_reading}
use Rattle.store.proofs.declined_read.Goals as goal

pub returns : goal.returns
unfolding read_says chart_after_reading
returns c = record { chart = c.zero_chart.ensures; says = refl }

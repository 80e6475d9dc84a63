-- `chart::tail::no_tail` meets its contract.
use mathlib.Core.Path.{refl}
use Rattle.chart.specs.Pad.{pad}
use Rattle.chart.proofs.tail.no_tail.Goals as goal

pub returns : goal.returns
unfolding pad
returns c = record { left = record { words = refl; count = refl }; rounds = refl; removed = refl }

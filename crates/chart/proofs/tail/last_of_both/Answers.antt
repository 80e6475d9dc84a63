-- `chart::tail::last_of_both` meets its contract.
use Rattle.chart.proofs.Tails.{ends_copied}
use Rattle.chart.proofs.tail.last_of_both.Goals as goal

pub returns : goal.returns
returns c =
    ends_copied c.args.base.now c.args.series.now c.args.k c.requires.within c.min-from_series.ensures c.copy_from_slice.ensures.after
    c.copy_from_slice-2.ensures.after

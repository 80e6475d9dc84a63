-- `chart::rejection::reject_given` ends: a round that removes words leaves fewer.
use Rattle.chart.proofs.rejection.+reject_given.Given as goal

abbrev pub decreases-reject_given : goal.decreases-reject_given
decreases-reject_given l = l.n

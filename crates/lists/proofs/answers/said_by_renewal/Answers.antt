-- `lists::answers::said_by_renewal` meets its contract: the counts are small.
use mathlib.Core.Path.{ap}
use native.Mathlib.Omega.{arith}
use Rattle.chart.specs.Calls.{renewal_says_by}
use Rattle.lists.proofs.answers.said_by_renewal.Goals as goal

pub overflow_cast-result : goal.overflow_cast-result
overflow_cast-result g c =
    let says = ap (renewal_says_by g.R.Numbered.number_of) c.in-Ok.is in
    let small = c.requires c.in-Ok.counts.rounds c.in-Ok.counts.removed says in omega (arith, small)

pub overflow_cast-result-in-Ok : goal.overflow_cast-result-in-Ok
overflow_cast-result-in-Ok g c =
    let says = ap (renewal_says_by g.R.Numbered.number_of) c.in-Ok.is in
    let small = c.requires c.in-Ok.counts.rounds c.in-Ok.counts.removed says in omega (arith, small)

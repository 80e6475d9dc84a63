-- `judging::verdict::trend_of` meets its contract.
use Rattle.judging.proofs.Judging.{no_trend, is_trend}
use Rattle.judging.proofs.verdict.trend_of.Goals as goal

pub returns-in_default : goal.returns-in_default
returns-in_default c = no_trend c.args.series.now c.in_default.ensures.cases

pub returns : goal.returns
returns c = is_trend c.args.series.now _ c.in-Some.ensures.cases.0 c.in-Some.ensures.cases.1.same c.orders_of.ensures

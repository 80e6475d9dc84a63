-- `judging::verdict::run_side` meets its contract.
use Rattle.limits.specs.Sums.{limits_say}
use Rattle.judging.proofs.Judging.{no_run_side, is_run_side}
use Rattle.judging.proofs.verdict.run_side.Goals as goal

pub returns-in_default : goal.returns-in_default
returns-in_default c = no_run_side (limits_say c.args.l) c.args.series.now c.in_default.ensures.cases

pub returns : goal.returns
returns c =
    is_run_side (limits_say c.args.l) c.args.series.now _ c.in-Some.ensures.cases.0 c.in-Some.ensures.cases.1.same c.sides_of.ensures

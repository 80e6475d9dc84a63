-- `judging::reanalysis::turns_back` meets its contract.
use native.Mathlib.Omega.{arith}
use Rattle.judging.proofs.Judging.{no_trend, turned_back}
use Rattle.judging.proofs.reanalysis.turns_back.Goals as goal

pub returns-in_default : goal.returns-in_default
returns-in_default c = turned_back c.args.series.now c.args.w (no_trend c.args.series.now (omega arith))

-- `commands::chart_kept` meets its contract.
use Rattle.commands.specs.Answers.{chart_kept}
use Rattle.commands.proofs.chart_kept.Goals as goal

pub returns-in-Ok : goal.returns-in-Ok
unfolding chart_kept
returns-in-Ok g c = rw c.in-Ok.is

pub returns-in-Err : goal.returns-in-Err
unfolding chart_kept
returns-in-Err g c = rw c.in-Err.is

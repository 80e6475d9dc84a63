-- `control_chart::input::read_some` meets its contract.
use mathlib.Core.Path.{refl}
use mathlib.Core.Bool.{false≢true}
use Rattle.control_chart.proofs.Taking.{read_came, read_failed}
use Rattle.control_chart.proofs.input.read_some.Goals as goal

pub returns-then-after : goal.returns-then-after
returns-then-after c = read_came _ c.take_bytes-after.ensures (λ _. c.if-after.true)

pub returns-else-n-gt0 : goal.returns-else-n-gt0
returns-else-n-gt0 c = read_came _ c.take_bytes-after.ensures (λ more. absurd (false≢true more))

pub returns-in-Err : goal.returns-in-Err
returns-in-Err c = rw c.read_failed.ensures (read_failed c.args.pending _ 3 refl)

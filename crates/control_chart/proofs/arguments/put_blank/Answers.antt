use Rattle.printing.proofs.Putting.{puts_none}
use Rattle.control_chart.proofs.arguments.put_blank.Goals as goal

pub returns-then-at-eq0-clause-puts : goal.returns-then-at-eq0-clause-puts
returns-then-at-eq0-clause-puts c = rw c.if-at-eq0.true (puts_none _ 0)

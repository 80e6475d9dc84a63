-- `control_chart::input::end_input` meets its contract.
use Rattle.control_chart.proofs.Taking.{held_none, held_last}
use Rattle.control_chart.proofs.input.end_input.Goals as goal

pub returns-then-n-eq0 : goal.returns-then-n-eq0
returns-then-n-eq0 c = λ s held. held_none s c.args.pending _ c.requires held c.if-n-eq0.true

pub returns : goal.returns
returns c = λ s held. held_last s c.args.pending _ c.requires held c.end_line.result c.end_line.ensures

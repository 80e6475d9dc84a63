-- `control_chart::input::end_line` meets its contract.
use Rattle.control_chart.proofs.Cutting.{ended_line_lem}
use Rattle.control_chart.proofs.input.end_line.Goals as goal

pub returns : goal.returns
returns c = rw (ended_line_lem _ _ _ c.without_return-n.ensures c.mark_size-at.ensures) at c.answered.ensures

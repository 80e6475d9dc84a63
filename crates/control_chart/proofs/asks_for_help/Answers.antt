-- `control_chart::asks_for_help` meets its contract.
use Rattle.control_chart.specs.Status.{asks_for_help}
use Rattle.control_chart.proofs.asks_for_help.Goals as goal

pub returns : goal.returns
unfolding asks_for_help
returns c = rw (c.same_bytes.ensures, c.same_bytes-2.ensures, c.same_bytes-3.ensures)

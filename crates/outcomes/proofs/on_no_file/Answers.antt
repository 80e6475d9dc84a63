-- `outcomes::on_no_file` meets its contract.
use Rattle.outcomes.specs.OnFile.{fault_number}
use Rattle.outcomes.proofs.Ending.{ends_in_fault}
use Rattle.outcomes.proofs.on_no_file.Goals as goal

pub returns-then-is_build : goal.returns-then-is_build
returns-then-is_build c =
    rw (← c.is_build.ensures, c.if-is_build.true, ← c.zero_chart.ensures) c.on_chart.ensures

pub returns : goal.returns
unfolding fault_number
returns c =
    rw (← c.is_build.ensures, c.if-is_build.false) (ends_in_fault _ c.fault.ensures)

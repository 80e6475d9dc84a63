-- `chart_c::control_chart_check` meets its contract.
use borrow.Author.Rules.{rules}
use Rattle.chart_c.specs.Plotting.{chart_in}
use Rattle.chart_c.proofs.Held.{number_read}
use Rattle.chart_c.proofs.control_chart_check.Goals as goal

pub returns : goal.returns
unfolding chart_in
returns c =
    let same = number_read _ _ c.read-back.ensures in
    record { answered = rw (← same) (search rules) }

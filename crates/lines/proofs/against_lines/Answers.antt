-- `lines::against_lines` meets its contract.
use mathlib.Core.Path.{◌≡◌}
use Rattle.std.proofs.Common.{rules}
use Rattle.std.specs.Prelude.{Err}
use Rattle.lines.specs.Lines.{lines_answer_says, against_says}
use Rattle.lines.proofs.ChartLines.{comparison_refused, lines_compared_then}
use Rattle.lines.proofs.against_lines.Goals as goal

pub returns-in_err-lines : goal.returns-in_err-lines
unfolding lines_answer_says against_says
returns-in_err-lines c =
    let same : c.from_residual.result ≡ Err c.in_err-lines.field-0.0 = search rules in
    rw same (comparison_refused c.args.chart c.args.word _ c.in_err-lines.ensures)

pub returns : goal.returns
unfolding lines_answer_says against_says
returns c =
    lines_compared_then c.args.chart c.args.word c.in_ok-lines.lines c.beyond_lines.result c.ranges.word c.in_ok-lines.ensures
    c.beyond_lines.ensures

-- `lines::lines_by` meets its contract.
use Rattle.std.proofs.Common.{sym, ◌∙◌}
use Rattle.lines.proofs.Doubles.{line_is}
use Rattle.lines.proofs.ChartLines.{UpperLines, duplicate_lines, two_sided_lines}
use Rattle.lines.proofs.lines_by.Goals as goal

pub returns-then-has_lower : goal.returns-then-has_lower
returns-then-has_lower c =
    let upper_lines : UpperLines c.args.l c.deviation_parts-warning.result c.deviation_parts-control.result c.line_of-mean.result
    c.line_of-upper_warning.result c.line_of-upper_control.result =
    record {
      of_warning = c.deviation_parts-warning.ensures;
      of_control = c.deviation_parts-control.ensures;
      of_mean = line_is _ _ _
          c.mean_parts.ensures c.line_of-mean.ensures;
      of_upper_warning = line_is _ _ _ c.upper_parts.ensures c.line_of-upper_warning.ensures;
      of_upper_control = line_is _ _ _ c.upper_parts-2.ensures c.line_of-upper_control.ensures;
    } in
    two_sided_lines upper_lines c.line_of-lower_warning.result c.line_of-lower_control.result
    (line_is _ _ _ c.lower_parts.ensures c.line_of-lower_warning.ensures)
    (line_is _ _ _ c.lower_parts-then-has_lower.ensures c.line_of-lower_control.ensures)
    (sym c.has_lower.ensures ∙ c.if-has_lower.true)

pub returns : goal.returns
returns c =
    let upper_lines : UpperLines c.args.l c.deviation_parts-warning.result c.deviation_parts-control.result c.line_of-mean.result
    c.line_of-upper_warning.result c.line_of-upper_control.result =
    record {
      of_warning = c.deviation_parts-warning.ensures;
      of_control = c.deviation_parts-control.ensures;
      of_mean = line_is _ _ _
          c.mean_parts.ensures c.line_of-mean.ensures;
      of_upper_warning = line_is _ _ _ c.upper_parts.ensures c.line_of-upper_warning.ensures;
      of_upper_control = line_is _ _ _ c.upper_parts-2.ensures c.line_of-upper_control.ensures;
    } in
    duplicate_lines upper_lines (sym c.has_lower.ensures ∙ c.if-has_lower.false)

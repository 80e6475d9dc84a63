-- `lines::against_lines_sound` meets its contract: it compares the word with the limits themselves.
use Rattle.lines.proofs.ChartLines.{limits_compared}
use Rattle.lines.proofs.against_lines_sound.Goals as goal

pub returns : goal.returns
returns c =
    let l = c.limits-l in
    limits_compared l.result c.args.word c.ranges.word c.beyond-warning.result c.beyond-control.result
    l.ensures.same c.beyond-warning.ensures c.beyond-control.ensures

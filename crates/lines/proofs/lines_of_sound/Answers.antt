-- `lines::lines_of_sound` meets its contract.
use Rattle.std.proofs.Common.{ap, ◌∙◌}
use Rattle.rules.specs.ChartLines.{lines_of}
use Rattle.lines.proofs.ChartLines.{has_lines}
use Rattle.lines.proofs.lines_of_sound.Goals as goal

pub lines_by-requires : goal.lines_by-requires
lines_by-requires c =
    has_lines c.args.sound.chart c.args.sound.sound c.limits.result c.limits.ensures

pub returns : goal.returns
returns c = c.lines_by.ensures ∙ ap lines_of c.limits.ensures.same

-- `lines::beyond_lines` meets its contract.
use Rattle.lines.proofs.Comparing.{against_duplicate, against_two_sided}
use Rattle.lines.proofs.beyond_lines.Goals as goal

pub returns-in-Duplicate : goal.returns-in-Duplicate
returns-in-Duplicate c =
    against_duplicate c.args.lines c.args.word c.ranges.word _ _ _ c.above_line.result c.above_line-in-Duplicate.result
    c.in-Duplicate.is c.above_line.ensures c.above_line-in-Duplicate.ensures

pub returns-in-TwoSided : goal.returns-in-TwoSided
returns-in-TwoSided c =
    against_two_sided c.args.lines c.args.word c.ranges.word _
    c.below_line.result c.above_line-in-TwoSided.result c.below_line-in-TwoSided.result c.above_line-in-TwoSided-2.result
    c.in-TwoSided.is c.below_line.ensures c.above_line-in-TwoSided.ensures c.below_line-in-TwoSided.ensures
    c.above_line-in-TwoSided-2.ensures

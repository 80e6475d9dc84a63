-- `lines::parts::mean_parts` meets its contract.
use Rattle.lines.proofs.LineParts.{mean_parts}
use Rattle.lines.proofs.parts.mean_parts.Goals as goal

pub returns : goal.returns
returns c =
    let t = c.sum_parts in
    mean_parts c.args.s c.requires.bounded t.result t.ensures c.quotient_down.result c.quotient_down.ensures

-- `chart::rejection::marks_beyond` meets its contract.
use Rattle.std.proofs.Common.{rules, refl, false, take, pos, length-take, arith}
use Rattle.rules.specs.Sizes.{base_most}
use Rattle.rules.specs.Limits.{beyond_control}
use Rattle.limits.specs.Sums.{limits_say}
use Rattle.chart.specs.Pad.{pad}
use Rattle.chart.proofs.Places.{pad_next}
use Rattle.chart.proofs.rejection.marks_beyond.Goals as goal

pub loop-i-init : goal.loop-i-init
unfolding pad
loop-i-init c = refl

pub loop-i-preserved : goal.loop-i-preserved
loop-i-preserved c =
    pad_next false base_most (beyond_control (limits_say c.args.l)) (take c.args.n c.args.words) c.loop-i.i (pos 0) (omega arith)
    (omega (arith, length-take c.args.n c.args.words, c.requires)) c.loop-i.invariant (search rules)

-- `chart::rejection::less_marked` meets its contract.
use Rattle.std.proofs.Common.{rules, refl, ◌≤◌, length, take, length-take, arith}
use Rattle.chart.proofs.Marks.{can_take, turn_taken, turn_not_taken, all_taken, marked_front}
use Rattle.chart.proofs.rejection.less_marked.Goals as goal

pub loop-i-init : goal.loop-i-init
loop-i-init c = record { less = refl; removable = rw (marked_front c.args.n c.args.marks c.args.words) at c.requires.removable }

pub without_word-less-requires : goal.without_word-less-requires
without_word-less-requires c =
    let words = length-take c.args.n c.args.words in
    let marks : length (take c.args.n c.args.words) ≤ length c.args.marks = omega (arith, c.requires.few) in
    search (rules, can_take c.loop-i-test.true marks c.loop-i.invariant)

pub loop-i-preserved : goal.loop-i-preserved
loop-i-preserved c =
    let words = length-take c.args.n c.args.words in
    let marks : length (take c.args.n c.args.words) ≤ length c.args.marks = omega (arith, c.requires.few) in
    let more = c.loop-i-test.true in
    search (rules, turn_taken more marks c.loop-i.invariant, turn_not_taken more marks c.loop-i.invariant)

pub returns : goal.returns
returns c = rw (marked_front c.args.n c.args.marks c.args.words) (all_taken (omega arith) c.loop-i.invariant)

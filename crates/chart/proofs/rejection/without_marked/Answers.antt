-- `chart::rejection::without_marked` meets its contract.
use Rattle.std.proofs.Common.{rules, refl, ◌≡◌, ◌≤◌, length, take, length-take, arith}
use Rattle.std.proofs.lemmas.List.{take_all}
use Rattle.rules.specs.Sizes.{base_most}
use Rattle.chart.specs.Pad.{pad}
use Rattle.chart.specs.Rejection.{marked, without_marked}
use Rattle.chart.proofs.Marks.{moved_few, turn_marked, turn_kept}
use Rattle.chart.proofs.rejection.without_marked.Goals as goal

pub loop-i-init : goal.loop-i-init
unfolding pad without_marked marked
loop-i-init c = record { holds = record { words = refl; count = refl } }

pub offset_bounds-left-kept : goal.offset_bounds-left-kept
offset_bounds-left-kept c = omega (arith, moved_few c.loop-i.invariant, length-take c.args.n c.args.words, c.requires)

pub bounds-left-kept : goal.bounds-left-kept
bounds-left-kept c = omega (arith, moved_few c.loop-i.invariant, length-take c.args.n c.args.words, c.requires)

pub overflow_add-kept : goal.overflow_add-kept
overflow_add-kept c = omega (arith, moved_few c.loop-i.invariant, length-take c.args.n c.args.words, c.requires)

pub loop-i-preserved : goal.loop-i-preserved
loop-i-preserved c =
    let count = length-take c.args.n c.args.words in
    let marks : length (take c.args.n c.args.words) ≤ length c.args.marks = omega (arith, c.requires) in
    let few : length (take c.args.n c.args.words) ≤ base_most = omega (arith, c.requires) in
    let more = c.loop-i-test.true in
    let moved = c.loop-i.invariant in
    search (rules, turn_kept more marks few moved, turn_marked more marks few moved)

pub returns : goal.returns
returns c =
    let all : c.loop-i.i ≡ c.args.n = search rules in
    rw (take_all c.loop-i.i (take c.args.n c.args.words) c.loop-i-test.false, all) at c.loop-i.invariant.holds

-- `store::read_form` meets its contract: the places are those of the three records, and the chart holds what the records hold.
use native.Mathlib.Omega.{arith}
use mathlib.Core.Path.{sym}
use lib.Seq.{length-take-le}
use Rattle.chart.specs.Chart.{state_of}
use Rattle.rules.proofs.Booleans.{answered_no, answered_yes}
use Rattle.refusals.specs.Refusal.{refusal_number}
use Rattle.store.proofs.Reading.{head_there, base_there, series_there, base_few, series_few, read_unsound, read_done, read_declined}
use Rattle.store.proofs.read_form.Goals as goal

pub nth_number-kind-requires : goal.nth_number-kind-requires
nth_number-kind-requires c = let there = head_there _ _ c.requires in (omega (arith, there.enough), there.within)

pub nth_number-status-requires : goal.nth_number-status-requires
nth_number-status-requires c = let there = head_there _ _ c.requires in (omega (arith, there.enough), there.within)

pub nth_number-open_verdict-requires : goal.nth_number-open_verdict-requires
nth_number-open_verdict-requires c = let there = head_there _ _ c.requires in (omega (arith, there.enough), there.within)

pub fill-requires : goal.fill-requires
fill-requires c = let there = base_there _ _ c.requires in (there.few, there.within)

pub fill-requires-2 : goal.fill-requires-2
fill-requires-2 c = let there = series_there _ _ c.requires in (there.few, there.within)

pub slice_bounds-is_sound-end : goal.slice_bounds-is_sound-end
slice_bounds-is_sound-end c =
    let few = base_few _ _ c.requires in
    sym (length-take-le _ c.fill.new.words (omega arith))

pub slice_bounds-is_sound-end-2 : goal.slice_bounds-is_sound-end-2
slice_bounds-is_sound-end-2 c =
    let few = series_few _ _ c.requires in
    sym (length-take-le _ c.fill-2.new.words (omega arith))

pub returns-then-not-is_sound : goal.returns-then-not-is_sound
unfolding state_of refusal_number
returns-then-not-is_sound c =
    let unsound =
    read_unsound _ _ c.requires c.fill.ensures c.fill-2.ensures c.nth_number-kind.ensures c.nth_number-status.ensures
    c.nth_number-open_verdict.ensures (answered_no c.is_sound.ensures c.if-not-is_sound.true) in
    read_declined _ 14 _ unsound c.declined_read.ensures

pub returns : goal.returns
unfolding state_of
returns c =
    read_done _ _ c.requires c.fill.ensures c.fill-2.ensures c.nth_number-kind.ensures c.nth_number-status.ensures
    c.nth_number-open_verdict.ensures (answered_yes c.is_sound.ensures c.if-not-is_sound.false)

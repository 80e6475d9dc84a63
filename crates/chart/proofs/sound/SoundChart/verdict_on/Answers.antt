-- `chart::sound::SoundChart::verdict_on` meets its contract.
use mathlib.Core.Path.{◌≡◌, sym, ap, ◌∙◌}
use mathlib.Core.List.{List}
use Prim.Native.Nat.{◌+◌, ◌<◌, ◌≤◌}
use native.Mathlib.Omega.{arith}
use native.Mathlib.Numerals.{add-one}
use borrow.Author.Rules.{rules}
use lib.ListN.{length, take, set, length-set}
use lib.Seq.{take-suc-set, length-take-le}
use lib.IntN.{ℤ}
use mir.Syntax.{w16}
use mir.Val.{to_z, of_z}
use mir.Facts.{to_z-of_z}
use Rattle.rules.specs.State.{limits_for, add_word}
use Rattle.rules.specs.Verdict.{verdict}
use Rattle.chart.specs.Chart.{state_of}
use Rattle.chart.proofs.State.{Given, given}
use Rattle.chart.proofs.sound.SoundChart.verdict_on.Goals as goal

pub slice_bounds-series-end : goal.slice_bounds-series-end
slice_bounds-series-end c =
    let sound_self : Given c.args.self.now.chart = given c.args.self.now.chart (search rules) (search rules) c.args.self.now.sound in
    let places : List ℤ = let self = c.args.self.now.chart in set self.series self.series_len (to_z w16 (of_z w16 c.args.w)) in
    let room : c.args.self.now.chart.series_len + 1 ≤ length places =
    let self = c.args.self.now.chart in let same = length-set self.series self.series_len (to_z w16 (of_z w16 c.args.w)) in omega
    (arith, same, sound_self.within.series_places, c.requires.room) in
    omega (arith, room)

pub slice_bounds-verdict-end : goal.slice_bounds-verdict-end
slice_bounds-verdict-end c =
    let sound_self : Given c.args.self.now.chart = given c.args.self.now.chart (search rules) (search rules) c.args.self.now.sound in
    let places : List ℤ = let self = c.args.self.now.chart in set self.series self.series_len (to_z w16 (of_z w16 c.args.w)) in
    let room : c.args.self.now.chart.series_len + 1 ≤ length places =
    let self = c.args.self.now.chart in let same = length-set self.series self.series_len (to_z w16 (of_z w16 c.args.w)) in omega
    (arith, same, sound_self.within.series_places, c.requires.room) in
    sym (length-take-le _ places (omega (arith, room)))

pub returns : goal.returns
unfolding add_word state_of
returns c =
    let sound_self : Given c.args.self.now.chart = given c.args.self.now.chart (search rules) (search rules) c.args.self.now.sound in
    let places : List ℤ = let self = c.args.self.now.chart in set self.series self.series_len (to_z w16 (of_z w16 c.args.w)) in
    let judged : let self = c.args.self.now.chart in take (self.series_len + 1) places ≡ (add_word (state_of self) c.args.w).series =
    let self = c.args.self.now.chart in let i = self.series_len in let some : i < length self.series = omega
    (arith, sound_self.within.series_places, c.requires.room) in rw (to_z-of_z c.ranges.w, add-one)
    (take-suc-set self.series i c.args.w some) in
    rw c.limits-l.ensures.same at c.verdict.ensures ∙ ap (verdict (limits_for (state_of c.args.self.now.chart))) judged

-- `chart::Chart::replace_last` meets its contract.
use native.Mathlib.Omega.{arith}
use borrow.Author.Rules.{rules}
use mir.Facts.{to_z-of_z}
use Rattle.chart.proofs.State.{Given, given, last_replaced}
use Rattle.chart.proofs.Chart.replace_last.Goals as goal

pub offset_bounds-self-last : goal.offset_bounds-self-last
offset_bounds-self-last c =
    let sound_self : Given c.args.self.now = given c.args.self.now (search rules) (search rules) c.requires.sound in
    omega (arith, sound_self.within.series_few)

pub bounds-self-last : goal.bounds-self-last
bounds-self-last c =
    let sound_self : Given c.args.self.now = given c.args.self.now (search rules) (search rules) c.requires.sound in
    omega (arith, sound_self.within.series_few, c.requires.some)

pub returns : goal.returns
returns c =
    let sound_self : Given c.args.self.now = given c.args.self.now (search rules) (search rules) c.requires.sound in
    rw (to_z-of_z c.ranges.w) (last_replaced c.args.self.now sound_self c.args.w c.requires.some)

-- `chart::Chart::add_word` meets its contract.
use borrow.Author.Rules.{rules}
use mir.Facts.{to_z-of_z}
use Rattle.chart.proofs.State.{Given, given, word_added}
use Rattle.chart.proofs.Chart.add_word.Goals as goal

pub returns : goal.returns
returns c =
    let sound_self : Given c.args.self.now = given c.args.self.now (search rules) (search rules) c.requires.sound in
    rw (to_z-of_z c.ranges.w) (word_added c.args.self.now sound_self c.args.w c.requires.room)

-- `chart::soundness::words_sound` meets its contract.
use Rattle.rules.specs.Soundness.{words_sound}
use Rattle.chart.proofs.soundness.words_sound.Goals as goal

pub returns : goal.returns
unfolding words_sound
returns c =
    let base = c.all_in_range.ensures in
    let series = c.all_in_range-2.ensures in
    rw (c.is_kind.ensures, c.are_counts-counts.ensures, base, series)

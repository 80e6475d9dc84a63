-- `chart::soundness::state_sound` meets its contract.
use mathlib.Core.Path.{sym}
use native.Mathlib.Omega.{arith}
use borrow.Author.Rules.{rules}
use Rattle.chart.specs.Chart.{state_of}
use Rattle.chart.proofs.State.{Within, base_fits, series_fits, base_count_lem, series_count_lem}
use Rattle.chart.proofs.soundness.state_sound.Goals as goal

pub slice_bounds-base-end : goal.slice_bounds-base-end
slice_bounds-base-end c =
    let within : Within c.args.c =
    record { base_places = search rules; series_places = search rules; base_few = c.requires.0; series_few = c.requires.1 } in
    base_fits c.args.c within

pub slice_bounds-is_sound-end : goal.slice_bounds-is_sound-end
slice_bounds-is_sound-end c =
    let within : Within c.args.c =
    record { base_places = search rules; series_places = search rules; base_few = c.requires.0; series_few = c.requires.1 } in
    sym (base_count_lem c.args.c within)

pub slice_bounds-series-end : goal.slice_bounds-series-end
slice_bounds-series-end c =
    let within : Within c.args.c =
    record { base_places = search rules; series_places = search rules; base_few = c.requires.0; series_few = c.requires.1 } in
    series_fits c.args.c within

pub slice_bounds-is_sound-end-2 : goal.slice_bounds-is_sound-end-2
slice_bounds-is_sound-end-2 c =
    let within : Within c.args.c =
    record { base_places = search rules; series_places = search rules; base_few = c.requires.0; series_few = c.requires.1 } in
    sym (series_count_lem c.args.c within)

pub is_sound-requires : goal.is_sound-requires
is_sound-requires c =
    let within : Within c.args.c =
    record { base_places = search rules; series_places = search rules; base_few = c.requires.0; series_few = c.requires.1 } in
    omega (arith, within.base_few, base_count_lem c.args.c within)

pub returns : goal.returns
unfolding state_of
returns c = search rules

-- `store::write_and_read` meets its contract: what was written is the form of a sound chart, and reading it gives that chart.
use borrow.Author.Rules.{rules}
use mathlib.Core.Path.{◌≡◌}
use lib.ListN.{length}
use Rattle.rules.specs.Sizes.{base_most, series_most}
use Rattle.store.specs.Store.{Writes}
use Rattle.std.specs.Prelude.{Ok}
use Rattle.store.proofs.Returning.{written_fits, written_count, returned, not_written_lem}
use Rattle.store.proofs.write_and_read.Goals as goal

pub slice_bounds-read-end : goal.slice_bounds-read-end
slice_bounds-read-end c =
    let wrote : (Writes c.args.chart c.args.out.now c.write-written.new.out (Ok c.in-Ok.size)) =
    rw c.in-Ok.is at c.write-written.ensures in
    written_fits _ _ _ _ wrote

pub slice_bounds-read-end-in-Ok : goal.slice_bounds-read-end-in-Ok
slice_bounds-read-end-in-Ok c =
    let wrote : (Writes c.args.chart c.args.out.now c.write-written.new.out (Ok c.in-Ok.size)) =
    rw c.in-Ok.is at c.write-written.ensures in
    written_count _ _ _ _ wrote

pub returns-in-Ok : goal.returns-in-Ok
returns-in-Ok c =
    let wrote : (Writes c.args.chart c.args.out.now c.write-written.new.out (Ok c.in-Ok.size)) =
    rw c.in-Ok.is at c.write-written.ensures in
    let base_places : length c.args.chart.base ≡ base_most = search rules in
    let series_places : length c.args.chart.series ≡ series_most = search rules in
    returned _ _ _ _ wrote base_places series_places _ c.read.ensures

pub returns-in-Err : goal.returns-in-Err
returns-in-Err c =
    not_written_lem _ _ _ _ (rw c.in-Err.is at c.write-written.ensures) _ c.declined_read.ensures

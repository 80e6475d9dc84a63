-- `commands::write` meets its contract.
use mathlib.Core.Path.{◌≡◌}
use borrow.Author.Rules.{rules}
use lib.ListN.{length}
use Rattle.rules.specs.Sizes.{base_most, series_most}
use Rattle.store.proofs.Returning.{written_fits, written_count}
use Rattle.commands.proofs.Writing.{form_replied, refusal_replied}
use Rattle.commands.proofs.write.Goals as goal

pub slice_bounds-bytes-end : goal.slice_bounds-bytes-end
slice_bounds-bytes-end c =
    written_fits _ _ _ _ (rw c.in-Ok.is at c.write-written.ensures)

pub slice_bounds-put_form-end : goal.slice_bounds-put_form-end
slice_bounds-put_form-end c =
    written_count _ _ _ _ (rw c.in-Ok.is at c.write-written.ensures)

pub returns-in-Ok : goal.returns-in-Ok
returns-in-Ok c =
    form_replied _ _ _ _ (rw c.in-Ok.is at c.write-written.ensures) c.put_form.ensures

pub returns-in-Err : goal.returns-in-Err
returns-in-Err c =
    let base_places : length c.args.chart.base ≡ base_most = search rules in
    let series_places : length c.args.chart.series ≡ series_most = search rules in
    refusal_replied _ _ _ _ base_places series_places (search rules)
    (rw c.in-Err.is at c.write-written.ensures) (rw c.number.ensures at c.put_refusal.ensures)

-- `chart_c::calls::keep` meets its contract.
use mathlib.Core.Path.{◌≡◌, refl}
use borrow.Author.Rules.{rules}
use Rattle.std.specs.Prelude.{Err}
use Rattle.refusals.specs.Refusal.{result_says}
use Rattle.chart_c.proofs.Kept.{keeps_declined, written, not_written_lem}
use Rattle.chart_c.proofs.calls.keep.Goals as goal

pub returns-in_err-answered : goal.returns-in_err-answered
unfolding result_says
returns-in_err-answered g c =
    let same : c.from_residual.result ≡ Err c.in_err-answered.field-0.0 = search rules in
    rw (same, c.in_err-answered.was) (keeps_declined _ _ _ _ refl)

pub returns-in_err-n : goal.returns-in_err-n
unfolding result_says
returns-in_err-n g c =
    let same : c.from_residual-in_err-n.result ≡ Err c.in_err-n.field-0.0 = search rules in
    let sound = c.args.after.sound in
    rw (same, c.in_ok-answered.was) (not_written_lem _ sound _ _ _ _ _ c.in_err-n.ensures)

pub returns : goal.returns
unfolding result_says
returns g c =
    let sound = c.args.after.sound in
    rw c.in_ok-answered.was (written _ sound _ _ _ _ _ c.in_ok-n.ensures)

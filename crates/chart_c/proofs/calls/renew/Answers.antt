-- `chart_c::calls::renew` meets its contract.
use mathlib.Core.Path.{◌≡◌, refl}
use borrow.Author.Rules.{rules}
use Rattle.std.specs.Prelude.{Err}
use Rattle.refusals.specs.Refusal.{answered_number, result_says}
use Rattle.chart_c.proofs.Kept.{not_called, call_leaves}
use Rattle.chart_c.proofs.Places.{filled, not_filled, counted_parts, renewal_parts}
use Rattle.chart_c.proofs.calls.renew.Goals as goal

pub returns-in_err-held : goal.returns-in_err-held
unfolding answered_number result_says
returns-in_err-held c =
    let same : c.from_residual.result ≡ Err c.in_err-held.field-0.0 = search rules in
    rw same (not_called _ _ _ _ c.in_err-held.ensures _ not_filled)

pub returns-in_err-counts : goal.returns-in_err-counts
unfolding answered_number result_says
returns-in_err-counts c =
    let same : c.from_residual-in_err-counts.result ≡ Err c.in_err-counts.field-0.0 = search rules in
    rw same (call_leaves _ _ _ c.in_ok-held.ensures c.renew-answer.ensures counted_parts _ (renewal_parts _)
    c.in_err-counts.ensures _ not_filled)

pub returns : goal.returns
unfolding answered_number result_says
returns c =
    call_leaves _ _ _ c.in_ok-held.ensures c.renew-answer.ensures counted_parts _ (renewal_parts _) c.in_ok-counts.ensures _
    (filled refl refl)

-- `chart_c::calls::correct` meets its contract.
use mathlib.Core.Path.{◌≡◌, refl}
use borrow.Author.Rules.{rules}
use Rattle.std.specs.Prelude.{Err}
use Rattle.refusals.specs.Refusal.{answered_number}
use Rattle.chart_c.specs.Lent as lent
use Rattle.chart_c.proofs.Kept.{not_called, call_leaves}
use Rattle.chart_c.proofs.Places.{no_parts, correction_parts, number_kept}
use Rattle.chart_c.proofs.calls.correct.Goals as goal

pub returns-in_err-held : goal.returns-in_err-held
unfolding answered_number lent.answered_number
returns-in_err-held c =
    let same : c.from_residual.result ≡ Err c.in_err-held.field-0.0 = search rules in
    rw same (not_called _ _ _ _ c.in_err-held.ensures _ refl)

pub returns : goal.returns
returns c = call_leaves _ _ _ c.in_ok-held.ensures c.correct-answer.ensures no_parts _ (correction_parts _) c.keep.ensures _ (number_kept _)

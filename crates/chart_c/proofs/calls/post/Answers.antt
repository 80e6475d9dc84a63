-- `chart_c::calls::post` meets its contract.
use mathlib.Core.Path.{◌≡◌}
use borrow.Author.Rules.{rules}
use mir.Facts.{to_z-of_z}
use Rattle.std.specs.Prelude.{Err}
use Rattle.refusals.specs.Refusal.{answered_number, result_says}
use Rattle.chart_c.proofs.Kept.{not_called, call_leaves, post_gives}
use Rattle.chart_c.proofs.Places.{filled, not_filled, judged_parts, post_parts}
use Rattle.chart_c.proofs.calls.post.Goals as goal

pub returns-in_err-held : goal.returns-in_err-held
unfolding answered_number result_says
returns-in_err-held c =
    let same : c.from_residual.result ≡ Err c.in_err-held.field-0.0 = search rules in
    rw same (not_called _ _ _ _ c.in_err-held.ensures _ not_filled)

pub returns-in_err-judged : goal.returns-in_err-judged
unfolding answered_number result_says
returns-in_err-judged c =
    let fits = c.ranges in
    let made = rw (to_z-of_z fits.a, to_z-of_z fits.b, to_z-of_z fits.c) at c.post-answer.ensures in
    let gives = post_gives c.in_ok-held.held.sound c.args.kind c.args.a c.args.b c.args.c c.kind_passed.ensures made in
    let same : c.from_residual-in_err-judged.result ≡ Err c.in_err-judged.field-0.0 = search rules in
    rw same (call_leaves _ _ _ c.in_ok-held.ensures gives judged_parts _ (post_parts _) c.in_err-judged.ensures _ not_filled)

pub returns : goal.returns
unfolding answered_number result_says
returns c =
    let fits = c.ranges in
    let made = rw (to_z-of_z fits.a, to_z-of_z fits.b, to_z-of_z fits.c) at c.post-answer.ensures in
    let gives = post_gives c.in_ok-held.held.sound c.args.kind c.args.a c.args.b c.args.c c.kind_passed.ensures made in
    call_leaves _ _ _ c.in_ok-held.ensures gives judged_parts _ (post_parts _) c.in_ok-judged.ensures _ (filled (search rules) c.number.ensures)

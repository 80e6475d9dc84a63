-- `chart_c::calls::build` meets its contract.
use mathlib.Core.Path.{◌≡◌, refl}
use borrow.Author.Rules.{rules}
use Rattle.std.specs.Prelude.{Err}
use Rattle.refusals.specs.Refusal.{answered_number, result_says}
use Rattle.chart_c.proofs.Building.{sound_if_built, build_leaves}
use Rattle.chart_c.proofs.Kept.{keeps_declined}
use Rattle.chart_c.proofs.Places.{filled, not_filled}
use Rattle.chart_c.proofs.calls.build.Goals as goal

pub returns-in_err-made : goal.returns-in_err-made
unfolding answered_number result_says
returns-in_err-made c =
    let same : c.from_residual.result ≡ Err c.in_err-made.field-0.0 = search rules in
    rw same
    (build_leaves _ c.kind_passed.ensures c.build-built.ensures _ c.in_err-made.was (keeps_declined _ _ _ c.in_err-made.field-0.0 refl)
    _ not_filled)

pub invariant_of-keep : goal.invariant_of-keep
invariant_of-keep c = record { sound = sound_if_built _ _ _ c.build-built.ensures c.in_ok-made.was }

pub returns-in_err-counts : goal.returns-in_err-counts
unfolding answered_number result_says
returns-in_err-counts c =
    let same : c.from_residual-in_err-counts.result ≡ Err c.in_err-counts.field-0.0 = search rules in
    rw same
    (build_leaves _ c.kind_passed.ensures c.build-built.ensures _ c.in_ok-made.was c.in_err-counts.ensures _ not_filled)

pub returns : goal.returns
unfolding answered_number result_says
returns c =
    build_leaves _ c.kind_passed.ensures c.build-built.ensures _ c.in_ok-made.was c.in_ok-counts.ensures _ (filled refl refl)

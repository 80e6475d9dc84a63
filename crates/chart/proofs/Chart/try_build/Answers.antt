-- `chart::Chart::try_build` meets its contract.
use mathlib.Core.Path.{◌≡◌, refl, sym}
use lib.ListN.{length}
use borrow.Author.Rules.{rules}
use Rattle.std.specs.Prelude.{Err}
use Rattle.refusals.specs.Refusal.{answered_number}
use Rattle.rules.specs.Rejection.{rejection}
use Rattle.rules.proofs.Soundness.{can_build}
use Rattle.chart.specs.Rejection.{IsRejection}
use Rattle.chart.proofs.Rounds.{rejected_front}
use Rattle.chart.proofs.Builds.{build_declined, build_too_few, build_accepted}
use Rattle.chart.proofs.Chart.try_build.Goals as goal

pub returns-in_err-may_build : goal.returns-in_err-may_build
unfolding answered_number
returns-in_err-may_build c =
    let same : c.from_residual.result ≡ Err c.in_err-may_build.field-0.0 = search rules in
    rw (c.requires, same) (build_declined c.in_err-may_build.ensures)

pub padded-requires : goal.padded-requires
unfolding answered_number
padded-requires c = let a = c.args in (can_build a.kind a.words.now (sym c.in_ok-may_build.ensures)).most

pub reject-r-requires : goal.reject-r-requires
unfolding answered_number
reject-r-requires c = let a = c.args in (can_build a.kind a.words.now (sym c.in_ok-may_build.ensures)).most

pub returns-then-left-lt-BASE_WANTED : goal.returns-then-left-lt-BASE_WANTED
unfolding answered_number
returns-then-left-lt-BASE_WANTED c =
    let a = c.args in
    let rejected : IsRejection (rejection a.kind a.words.now) c.reject-r.result =
    rejected_front a.kind a.words.now c.padded.result (length a.words.now) c.reject-r.result refl c.padded.ensures c.reject-r.ensures in
    rw c.requires (build_too_few (sym c.in_ok-may_build.ensures) rejected c.if-left-lt-BASE_WANTED.true)

pub returns : goal.returns
unfolding answered_number
returns c =
    let a = c.args in
    let rejected : IsRejection (rejection a.kind a.words.now) c.reject-r.result =
    rejected_front a.kind a.words.now c.padded.result (length a.words.now) c.reject-r.result refl c.padded.ensures c.reject-r.ensures in
    build_accepted (sym c.in_ok-may_build.ensures) rejected c.if-left-lt-BASE_WANTED.false c.fresh_chart.ensures

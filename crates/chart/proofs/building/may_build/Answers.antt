-- `chart::building::may_build` meets its contract.
use mathlib.Core.Path.{◌≡◌}
use mathlib.Core.Bool.{true}
use Rattle.rules.proofs.Booleans.{answered_no, answered_yes}
use Rattle.refusals.specs.Refusal.{answered_number, refusal_number}
use Rattle.rules.specs.Kind.{is_kind}
use Rattle.rules.specs.Building.{is_build_count, build_refusal}
use Rattle.chart.proofs.building.may_build.Goals as goal

pub returns-then-not-is_kind : goal.returns-then-not-is_kind
unfolding answered_number refusal_number build_refusal
returns-then-not-is_kind c = rw (answered_no c.is_kind.ensures c.if-not-is_kind.true)

pub returns-then-not-is_build_count : goal.returns-then-not-is_build_count
unfolding answered_number refusal_number build_refusal
returns-then-not-is_build_count c =
    rw (answered_yes c.is_kind.ensures c.if-not-is_kind.false, answered_no c.is_build_count.ensures c.if-not-is_build_count.true)

pub returns-then-not-all_in_range : goal.returns-then-not-all_in_range
unfolding answered_number refusal_number build_refusal
returns-then-not-all_in_range c =
    let kind_holds : is_kind c.args.kind ≡ true = answered_yes c.is_kind.ensures c.if-not-is_kind.false in
    let count_holds : is_build_count c.args.words.now ≡ true = answered_yes c.is_build_count.ensures c.if-not-is_build_count.false in
    rw (kind_holds, count_holds, answered_no c.all_in_range.ensures c.if-not-all_in_range.true)

pub returns : goal.returns
unfolding answered_number build_refusal
returns c =
    let kind_holds : is_kind c.args.kind ≡ true = answered_yes c.is_kind.ensures c.if-not-is_kind.false in
    let count_holds : is_build_count c.args.words.now ≡ true = answered_yes c.is_build_count.ensures c.if-not-is_build_count.false in
    rw (kind_holds, count_holds, answered_yes c.all_in_range.ensures c.if-not-all_in_range.false)

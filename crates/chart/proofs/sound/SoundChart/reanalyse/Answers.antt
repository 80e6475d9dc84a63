-- `chart::sound::SoundChart::reanalyse` meets its contract.
use mathlib.Core.Path.{◌≡◌, refl, sym, ap, ◌∙◌}
use mathlib.Core.Bool.{true, false}
use lib.IntN.{ℤ}
use borrow.Author.Rules.{rules}
use mir.Syntax.{w16}
use mir.Facts.{to_z-of_z}
use Rattle.std.specs.Prelude.{Err}
use Rattle.refusals.specs.Refusal.{answered_number, refusal_number, result_says}
use Rattle.refusals.proofs.Numbers.{refusal_not_0}
use Rattle.rules.specs.Outcome.{given, refused}
use Rattle.rules.specs.Machine.{Call, reanalysis, reanalysing, word_for, reanalysed}
use Rattle.rules.specs.State.{replace_last}
use Rattle.chart.specs.Chart.{state_of, chart_of, with_status}
use Rattle.chart.specs.Calls.{Gives, reanalysis_says}
use Rattle.chart.proofs.State as state
use Rattle.chart.proofs.State.{Given}
use Rattle.chart.proofs.Calls.{number_first, reading_then, reading, word_read, has_last, passed, failed}
use Rattle.chart.proofs.StaysSound.{stays_sound}
use Rattle.chart.proofs.sound.SoundChart.reanalyse.Goals as goal

pub returns-in_err-may_reanalyse : goal.returns-in_err-may_reanalyse
unfolding reanalysis_says answered_number
returns-in_err-may_reanalyse c =
    let self = c.args.self.now.chart in
    let sound : Given self = state.given self (search rules) (search rules) c.args.self.now.sound in
    let call : Call = reanalysis c.args.kind c.args.a c.args.b c.args.c in
    let same : c.from_residual.result ≡ Err c.in_err-may_reanalyse.field-0.0 = search rules in
    let first = number_first (refusal_number c.in_err-may_reanalyse.field-0.0) (state_of self).kind c.args.kind c.args.a c.args.b c.args.c (refusal_not_0 _) in
    rw same (reading self sound call c.args.kind c.args.a c.args.b c.args.c (reanalysing (state_of self)) refl _ (refused _) c.in_err-may_reanalyse.ensures first)

pub returns-in_err-w : goal.returns-in_err-w
unfolding reanalysis_says answered_number result_says state_of
returns-in_err-w c =
    let self = c.args.self.now.chart in
    let sound : Given self = state.given self (search rules) (search rules) c.args.self.now.sound in
    let call : Call = reanalysis c.args.kind c.args.a c.args.b c.args.c in
    let same : c.from_residual-in_err-w.result ≡ Err c.in_err-w.field-0.0 = search rules in
    let formed : refused (refusal_number c.in_err-w.field-0.0) ≡ word_for self.kind c.args.kind c.args.a c.args.b c.args.c =
    rw (to_z-of_z c.ranges.a, to_z-of_z c.ranges.b, to_z-of_z c.ranges.c) at c.in_err-w.ensures in
    let then = reading_then 0 (state_of self).kind c.args.kind c.args.a c.args.b c.args.c refl (refused _) formed in
    rw same (reading self sound call c.args.kind c.args.a c.args.b c.args.c (reanalysing (state_of self)) refl 0 (refused _) c.in_ok-may_reanalyse.ensures then)

pub replace_last-requires : goal.replace_last-requires
unfolding answered_number
replace_last-requires c =
    let self = c.args.self.now.chart in
    let sound : Given self = state.given self (search rules) (search rules) c.args.self.now.sound in
    has_last self sound (sym c.in_ok-may_reanalyse.ensures)

-- the word replaces the last
passed_gives : (c : goal.After-set_status) → Gives c.args.self.now.chart (reanalysis c.args.kind c.args.a c.args.b c.args.c)
    c.set_status.new.self (reanalysed c.in_ok-w.w true)
unfolding answered_number result_says state_of
passed_gives c =
    let self = c.args.self.now.chart in
    let sound : Given self = state.given self (search rules) (search rules) c.args.self.now.sound in
    let s = state_of self in
    let call : Call = reanalysis c.args.kind c.args.a c.args.b c.args.c in
    let formed : given c.in_ok-w.w ≡ word_for self.kind c.args.kind c.args.a c.args.b c.args.c =
    rw (to_z-of_z c.ranges.a, to_z-of_z c.ranges.b, to_z-of_z c.ranges.c) at c.in_ok-w.ensures in
    let word = to_z-of_z {w = w16} {z = c.in_ok-w.w} (search rules) in
    let passes = rw word at (sym c.passes_for_last-passed.ensures ∙ c.if-passed.true) in
    let chart = c.replace_last.ensures ∙ ap (λ (x : ℤ). chart_of (replace_last s x)) word in
    let does = passed s c.in_ok-w.w c.replace_last.new.self c.set_status.new.self passes chart c.set_status.ensures in
    word_read self sound call c.args.kind c.args.a c.args.b c.args.c (reanalysing s) refl (sym c.in_ok-may_reanalyse.ensures)
    c.in_ok-w.w formed does

-- the word fails, and the status alone changes
failed_gives : (c : goal.Else-passed) → Gives c.args.self.now.chart (reanalysis c.args.kind c.args.a c.args.b c.args.c)
    (with_status c.args.self.now.chart 2 c.args.self.now.chart.open_verdict) (reanalysed c.in_ok-w.w false)
unfolding answered_number result_says state_of
failed_gives c =
    let self = c.args.self.now.chart in
    let sound : Given self = state.given self (search rules) (search rules) c.args.self.now.sound in
    let s = state_of self in
    let call : Call = reanalysis c.args.kind c.args.a c.args.b c.args.c in
    let formed : given c.in_ok-w.w ≡ word_for self.kind c.args.kind c.args.a c.args.b c.args.c =
    rw (to_z-of_z c.ranges.a, to_z-of_z c.ranges.b, to_z-of_z c.ranges.c) at c.in_ok-w.ensures in
    let word = to_z-of_z {w = w16} {z = c.in_ok-w.w} (search rules) in
    let fails = rw word at (sym c.passes_for_last-passed.ensures ∙ c.if-passed.false) in
    word_read self sound call c.args.kind c.args.a c.args.b c.args.c (reanalysing s) refl (sym c.in_ok-may_reanalyse.ensures)
    c.in_ok-w.w formed (failed self _ sound c.in_ok-w.w fails refl)

pub invariant_of-self : goal.invariant_of-self
invariant_of-self c = record { sound = stays_sound c.args.self.now.sound (passed_gives c) }

pub invariant_of-self-else-passed : goal.invariant_of-self-else-passed
unfolding with_status
invariant_of-self-else-passed c = record { sound = stays_sound c.args.self.now.sound (failed_gives c) }

pub returns-then-passed : goal.returns-then-passed
unfolding reanalysis_says
returns-then-passed c = rw (to_z-of_z {w = w16} {z = c.in_ok-w.w} (search rules), c.if-passed.true) (passed_gives c.before)

pub returns-else-passed : goal.returns-else-passed
unfolding reanalysis_says with_status
returns-else-passed c = rw (to_z-of_z {w = w16} {z = c.in_ok-w.w} (search rules), c.if-passed.false) (failed_gives c.before)

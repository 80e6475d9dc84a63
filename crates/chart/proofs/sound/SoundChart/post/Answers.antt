-- `chart::sound::SoundChart::post` meets its contract.
use mathlib.Core.Path.{◌≡◌, refl, sym, ap, ◌∙◌}
use lib.IntN.{ℤ}
use borrow.Author.Rules.{rules}
use mir.Syntax.{w16}
use mir.Facts.{to_z-of_z}
use Rattle.std.specs.Prelude.{Err}
use Rattle.refusals.specs.Refusal.{answered_number, refusal_number, result_says}
use Rattle.refusals.proofs.Numbers.{refusal_not_0}
use Rattle.rules.specs.Outcome.{given, refused}
use Rattle.rules.specs.Machine.{Call, post, posting, word_for, judged}
use Rattle.rules.specs.State.{limits_for, add_word}
use Rattle.rules.specs.Verdict.{verdict}
use Rattle.judging.specs.Verdicts.{verdict_number}
use Rattle.chart.specs.Chart.{state_of, chart_of}
use Rattle.chart.specs.Calls.{Gives, post_says}
use Rattle.chart.proofs.State as state
use Rattle.chart.proofs.State.{Given}
use Rattle.chart.proofs.Calls.{number_first, reading_then, reading, word_read, has_room, posted}
use Rattle.chart.proofs.StaysSound.{stays_sound}
use Rattle.chart.proofs.sound.SoundChart.post.Goals as goal

pub returns-in_err-may_post : goal.returns-in_err-may_post
unfolding post_says answered_number
returns-in_err-may_post c =
    let self = c.args.self.now.chart in
    let sound : Given self = state.given self (search rules) (search rules) c.args.self.now.sound in
    let call : Call = post c.args.kind c.args.a c.args.b c.args.c in
    let same : c.from_residual.result ≡ Err c.in_err-may_post.field-0.0 = search rules in
    let first = number_first (refusal_number c.in_err-may_post.field-0.0) (state_of self).kind c.args.kind c.args.a c.args.b c.args.c (refusal_not_0 _) in
    rw same (reading self sound call c.args.kind c.args.a c.args.b c.args.c (posting (state_of self)) refl _ (refused _) c.in_err-may_post.ensures first)

pub returns-in_err-w : goal.returns-in_err-w
unfolding post_says answered_number result_says state_of
returns-in_err-w c =
    let self = c.args.self.now.chart in
    let sound : Given self = state.given self (search rules) (search rules) c.args.self.now.sound in
    let call : Call = post c.args.kind c.args.a c.args.b c.args.c in
    let same : c.from_residual-in_err-w.result ≡ Err c.in_err-w.field-0.0 = search rules in
    let formed : refused (refusal_number c.in_err-w.field-0.0) ≡ word_for self.kind c.args.kind c.args.a c.args.b c.args.c =
    rw (to_z-of_z c.ranges.a, to_z-of_z c.ranges.b, to_z-of_z c.ranges.c) at c.in_err-w.ensures in
    let then = reading_then 0 (state_of self).kind c.args.kind c.args.a c.args.b c.args.c refl (refused _) formed in
    rw same (reading self sound call c.args.kind c.args.a c.args.b c.args.c (posting (state_of self)) refl 0 (refused _) c.in_ok-may_post.ensures then)

pub verdict_on-verdict-requires : goal.verdict_on-verdict-requires
unfolding answered_number
verdict_on-verdict-requires c =
    let self = c.args.self.now.chart in
    let sound : Given self = state.given self (search rules) (search rules) c.args.self.now.sound in
    has_room self sound (sym c.in_ok-may_post.ensures)

pub add_word-requires : goal.add_word-requires
unfolding answered_number
add_word-requires c =
    let self = c.args.self.now.chart in
    let sound : Given self = state.given self (search rules) (search rules) c.args.self.now.sound in
    has_room self sound (sym c.in_ok-may_post.ensures)

-- the word is added with its verdict
gives : (c : goal.After-set_status) → Gives c.args.self.now.chart (post c.args.kind c.args.a c.args.b c.args.c) c.set_status.new.self
    (judged c.in_ok-w.w (verdict_number c.verdict_on-verdict.result))
unfolding answered_number result_says state_of
gives c =
    let self = c.args.self.now.chart in
    let sound : Given self = state.given self (search rules) (search rules) c.args.self.now.sound in
    let s = state_of self in
    let call : Call = post c.args.kind c.args.a c.args.b c.args.c in
    let formed : given c.in_ok-w.w ≡ word_for self.kind c.args.kind c.args.a c.args.b c.args.c =
    rw (to_z-of_z c.ranges.a, to_z-of_z c.ranges.b, to_z-of_z c.ranges.c) at c.in_ok-w.ensures in
    let word = to_z-of_z {w = w16} {z = c.in_ok-w.w} (search rules) in
    let v = c.verdict_on-verdict.ensures ∙ ap (λ (x : ℤ). verdict (limits_for s) (add_word s x).series) word in
    let chart = c.add_word.ensures ∙ ap (λ (x : ℤ). chart_of (add_word s x)) word in
    let does =
    posted s c.in_ok-w.w (verdict_number c.verdict_on-verdict.result) c.status_for.result c.add_word.new.self
    c.set_status.new.self v chart (rw c.number-number.ensures at c.status_for.ensures) (rw c.number-number.ensures at c.set_status.ensures) in
    word_read self sound call c.args.kind c.args.a c.args.b c.args.c (posting s) refl (sym c.in_ok-may_post.ensures)
    c.in_ok-w.w formed does

pub invariant_of-self : goal.invariant_of-self
invariant_of-self c = record { sound = stays_sound c.args.self.now.sound (gives c) }

pub returns : goal.returns
unfolding post_says
returns c = rw (to_z-of_z {w = w16} {z = c.in_ok-w.w} (search rules)) (gives c.before)

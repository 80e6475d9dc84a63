-- `chart_c::plotting::compare` meets its contract.
use mathlib.Core.Path.{◌≡◌}
use borrow.Author.Rules.{rules}
use mir.Facts.{to_z-of_z}
use Rattle.std.specs.Prelude.{Err}
use Rattle.refusals.specs.Refusal.{answered_number, refusal_number}
use Rattle.chart_c.proofs.Drawn.{not_compared, compared_refused, no_word, word_compared}
use Rattle.chart_c.proofs.plotting.compare.Goals as goal

pub returns-in_err-held : goal.returns-in_err-held
unfolding answered_number
returns-in_err-held c =
    let same : c.from_residual.result ≡ Err c.in_err-held.field-0.0 = search rules in
    rw same (not_compared _ _ (compared_refused _ _ c.in_err-held.ensures _ _) _)

pub returns-in_default : goal.returns-in_default
unfolding answered_number refusal_number
returns-in_default c =
    let other = rw (to_z-of_z c.ranges.number) at c.in_default.ensures in
    not_compared _ 7 (no_word _ c.in_ok-held.ensures _ _ other) _

pub returns : goal.returns
returns c =
    let (fits, same) = rw (to_z-of_z c.ranges.number) at c.in-Ok.ensures in
    rw (word_compared _ c.in_ok-held.ensures _ _ fits _ (rw (same, to_z-of_z fits) at c.against_lines_sound.ensures)) c.put_beyond.ensures

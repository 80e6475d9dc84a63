-- `chart_c::calls::form_word` meets its contract.
use mathlib.Core.Path.{◌≡◌}
use borrow.Author.Rules.{rules}
use mir.Facts.{to_z-of_z}
use Rattle.std.specs.Prelude.{Err}
use Rattle.refusals.specs.Refusal.{answered_number}
use Rattle.chart_c.proofs.SameKind.{word_put, word_refused}
use Rattle.chart_c.proofs.calls.form_word.Goals as goal

pub returns-in_err-formed : goal.returns-in_err-formed
unfolding answered_number
returns-in_err-formed c =
    let fits = c.ranges in
    let same : c.from_residual.result ≡ Err c.in_err-formed.field-0.0 = search rules in
    rw same
    (word_refused _ _ _ _ _ (rw (to_z-of_z fits.a, to_z-of_z fits.b, to_z-of_z fits.c, c.kind_passed.ensures) at c.in_err-formed.ensures))

pub returns : goal.returns
unfolding answered_number
returns c =
    let fits = c.ranges in
    word_put _ _ _ _ (search rules)
    (rw (to_z-of_z fits.a, to_z-of_z fits.b, to_z-of_z fits.c, c.kind_passed.ensures) at c.in_ok-formed.ensures)

-- `chart_c::plotting::draw` meets its contract.
use mathlib.Core.Path.{◌≡◌}
use borrow.Author.Rules.{rules}
use Rattle.std.specs.Prelude.{Err}
use Rattle.refusals.specs.Refusal.{answered_number}
use Rattle.chart_c.proofs.Drawn.{not_drawn, drawn_refused, drawn_is}
use Rattle.chart_c.proofs.plotting.draw.Goals as goal

pub returns-in_err-held : goal.returns-in_err-held
unfolding answered_number
returns-in_err-held c =
    let same : c.from_residual.result ≡ Err c.in_err-held.field-0.0 = search rules in
    rw same (not_drawn _ _ (drawn_refused _ _ c.in_err-held.ensures _) _ _)

pub returns : goal.returns
returns c = rw (drawn_is _ c.in_ok-held.ensures _ _ c.lines_of_sound.ensures) c.put_line_doubles.ensures

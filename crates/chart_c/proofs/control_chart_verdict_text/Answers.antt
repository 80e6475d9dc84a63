-- `chart_c::control_chart_verdict_text` meets its contract.
use mathlib.Core.Path.{refl}
use Rattle.rules.proofs.Buffer.{front_fits, front_counted}
use Rattle.texts.proofs.Lengths.{verdict_short}
use Rattle.chart_c.proofs.Texts.{shown, string_of_lem}
use Rattle.chart_c.proofs.control_chart_verdict_text.Goals as goal

pub slice_bounds-meaning-end : goal.slice_bounds-meaning-end
slice_bounds-meaning-end c = front_fits (shown _ (verdict_short _) refl c.put_verdict_meaning-length.ensures)

pub slice_bounds-put_string-end : goal.slice_bounds-put_string-end
slice_bounds-put_string-end c = front_counted (shown _ (verdict_short _) refl c.put_verdict_meaning-length.ensures)

pub returns : goal.returns
returns c =
    rw c.number_in.ensures
    (string_of_lem (shown _ (verdict_short _) refl c.put_verdict_meaning-length.ensures) c.put_string.ensures)

-- `chart_c::control_chart_refusal_text` meets its contract.
use mathlib.Core.Path.{refl}
use Rattle.rules.proofs.Buffer.{front_fits, front_counted}
use Rattle.texts.proofs.Lengths.{refusal_short}
use Rattle.chart_c.proofs.Texts.{shown, string_of_lem}
use Rattle.chart_c.proofs.control_chart_refusal_text.Goals as goal

pub slice_bounds-meaning-end : goal.slice_bounds-meaning-end
slice_bounds-meaning-end c = front_fits (shown _ (refusal_short _) refl c.put_refusal_meaning-length.ensures)

pub slice_bounds-put_string-end : goal.slice_bounds-put_string-end
slice_bounds-put_string-end c = front_counted (shown _ (refusal_short _) refl c.put_refusal_meaning-length.ensures)

pub returns : goal.returns
returns c =
    rw c.number_in.ensures
    (string_of_lem (shown _ (refusal_short _) refl c.put_refusal_meaning-length.ensures) c.put_string.ensures)

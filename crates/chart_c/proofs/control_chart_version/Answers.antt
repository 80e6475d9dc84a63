-- `chart_c::control_chart_version` meets its contract.
use mathlib.Core.Path.{refl}
use Rattle.rules.proofs.Buffer.{front_fits, front_counted}
use Rattle.texts.proofs.Lengths.{version_short}
use Rattle.chart_c.proofs.Texts.{shown, string_of_lem}
use Rattle.chart_c.proofs.control_chart_version.Goals as goal

pub slice_bounds-number-end : goal.slice_bounds-number-end
slice_bounds-number-end c = front_fits (shown _ version_short refl c.put_version-length.ensures)

pub slice_bounds-put_string-end : goal.slice_bounds-put_string-end
slice_bounds-put_string-end c = front_counted (shown _ version_short refl c.put_version-length.ensures)

pub returns : goal.returns
returns c =
    rw c.number_in.ensures
    (string_of_lem (shown _ version_short refl c.put_version-length.ensures) c.put_string.ensures)

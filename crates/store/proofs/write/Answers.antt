-- `store::write` meets its contract: 14 first, and then writing of a sound chart.
use mathlib.Core.Path.{◌≡◌}
use Rattle.std.proofs.Common.{rules}
use Rattle.std.specs.Prelude.{Err}
use Rattle.chart.proofs.Checked.{not_checked, checked_number, same_checked}
use Rattle.store.proofs.Writing.{write_unsound}
use Rattle.store.proofs.write.Goals as goal

pub returns-in_err-sound : goal.returns-in_err-sound
returns-in_err-sound c =
    let same : c.from_residual.result ≡ Err c.in_err-sound.field-0.0 = search rules in
    let refused = c.in_err-sound.ensures in
    rw same (write_unsound _ _ _ (not_checked _ _ refused) (checked_number _ _ refused))

pub returns : goal.returns
returns c = rw (same_checked _ _ c.in_ok-sound.ensures) at c.write_sound.ensures

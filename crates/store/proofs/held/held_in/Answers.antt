-- `store::held::held_in` meets its contract.
use mathlib.Core.Path.{◌≡◌, refl}
use Rattle.std.proofs.Common.{rules}
use Rattle.std.specs.Prelude.{Err}
use Rattle.store.proofs.HeldChart.{held_read, held_not_read}
use Rattle.store.proofs.held.held_in.Goals as goal

pub returns-in_err-back : goal.returns-in_err-back
returns-in_err-back c =
    let same : c.from_residual.result ≡ Err c.in_err-back.field-0.0 = search rules in
    rw same (held_not_read _ _ c.read-back.ensures _ c.in_err-back.was)

pub returns : goal.returns
returns c = held_read _ _ c.read-back.ensures c.in_ok-back.was refl

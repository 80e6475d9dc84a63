-- `store::numbers::put_number` meets its contract: the two bytes are copied into their places.
use mathlib.Core.Path.{◌∙◌}
use native.Mathlib.Omega.{arith}
use Rattle.store.proofs.TwoBytes.{placed_number}
use Rattle.store.proofs.numbers.put_number.Goals as goal

pub returns : goal.returns
returns c = placed_number c.args.out.now c.args.at c.args.n _ (omega arith) (c.copy_from_slice.ensures.after ∙ c.to_le_bytes.ensures)

-- `extremes::with_word` meets its contract.
use Rattle.std.proofs.Common.{arith}
use Rattle.std.proofs.lemmas.Int.{to_z-of_z}
use Rattle.extremes.proofs.Picking.{lesser_is, greater_is}
use Rattle.extremes.proofs.with_word.Goals as goal

pub returns : goal.returns
returns c = record { least = grind (arith, to_z-of_z, lesser_is); greatest = grind (arith, to_z-of_z, greater_is) }

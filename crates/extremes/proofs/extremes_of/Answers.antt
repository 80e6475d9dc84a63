-- `extremes::extremes_of` meets its contract.
use Rattle.std.proofs.Common.{arith}
use Rattle.std.proofs.lemmas.Grind.{common_steps}
use Rattle.std.proofs.lemmas.Int.{to_z-of_z}
use Rattle.extremes.proofs.Picking.{of_no_words, of_first, with_next, with_last}
use Rattle.extremes.proofs.extremes_of.Goals as goal

pub returns-in_default : goal.returns-in_default
returns-in_default c = of_no_words (omega arith)

pub loop-w-init : goal.loop-w-init
loop-w-init c = of_first _ _ c.in-len1-up.len_at_least (grind (arith, common_steps)) (grind (arith, to_z-of_z)) (grind (arith, to_z-of_z))

pub loop-w-preserved : goal.loop-w-preserved
loop-w-preserved c = with_next _ _ c.loop-w.invariant c.loop-w-test.true (grind (arith, common_steps, to_z-of_z, c.with_word-e.ensures))

pub returns : goal.returns
returns c = with_last (grind (arith, common_steps, c.loop-w.invariant))

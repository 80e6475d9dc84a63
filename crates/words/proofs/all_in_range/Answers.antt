-- `words::all_in_range` meets its contract: a word between two words in range is in range too, so the least and the greatest word decide.
use mathlib.Core.Path.{sym}
use native.Mathlib.Omega.{arith}
use Rattle.std.proofs.Common.{rules}
use Rattle.rules.specs.Kind.{in_range}
use Rattle.rules.specs.Building.{all_in_range}
use Rattle.rules.proofs.AllOf.{all_none}
use Rattle.rules.proofs.PassesBetween.{in_range-between}
use Rattle.extremes.proofs.Picking.{answers_decide}
use Rattle.words.proofs.all_in_range.Goals as goal

pub returns-then-is_empty : goal.returns-then-is_empty
unfolding all_in_range
returns-then-is_empty c = sym (all_none (in_range c.args.kind) c.args.words.now 0 (grind arith))

pub returns : goal.returns
unfolding all_in_range
returns c =
    let kind = c.args.kind in
    answers_decide (in_range kind) (in_range-between kind) c.args.words.now (grind arith) c.extremes_of-e.ensures
    (search rules) (search rules) c.word_in_range.ensures c.word_in_range-2.ensures

-- `judging::verdict::warning_test` meets its contract.
use Rattle.std.proofs.Common.{arith}
use Rattle.std.proofs.lemmas.Int.{to_z-of_z}
use Rattle.rules.specs.LastWords.{last_word, one_before_last}
use Rattle.rules.specs.Verdict.{warning_test}
use Rattle.judging.proofs.verdict.warning_test.Goals as goal

pub returns : goal.returns
unfolding warning_test last_word one_before_last
returns c = grind (arith, to_z-of_z)

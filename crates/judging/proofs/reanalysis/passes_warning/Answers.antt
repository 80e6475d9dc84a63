-- `judging::reanalysis::passes_warning` meets its contract.
use Rattle.std.proofs.Common.{arith}
use Rattle.std.proofs.lemmas.Int.{to_z-of_z}
use Rattle.rules.specs.Limits.{beyond, beyond_warning, beyond_upper_warning, beyond_lower_warning}
use Rattle.rules.specs.Reanalysis.{passes_warning}
use Rattle.judging.proofs.reanalysis.passes_warning.Goals as goal

pub returns : goal.returns
unfolding passes_warning beyond_warning beyond beyond_upper_warning beyond_lower_warning
returns c = grind (arith, to_z-of_z)

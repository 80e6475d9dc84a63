-- `lists::answers::said_by_reanalysis` meets its contract.
use Rattle.std.proofs.Common.{rules}
use Rattle.lists.specs.Encoding.{numbers_of}
use Rattle.lists.specs.Runs.{said_numbers}
use Rattle.lists.proofs.Numbers.{passed_is}
use Rattle.lists.proofs.answers.said_by_reanalysis.Goals as goal

pub returns-in-Ok : goal.returns-in-Ok
unfolding numbers_of said_numbers
returns-in-Ok g c = search (rules, passed_is)

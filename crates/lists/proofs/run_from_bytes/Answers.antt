-- `lists::run_from_bytes` meets its contract.
use Rattle.rules.specs.Sizes.{base_least}
use Rattle.rules.proofs.Lists.{start_of-reading}
use Rattle.lists.proofs.Outcomes.{runs_list}
use Rattle.lists.proofs.run_from_bytes.Goals as goal

pub returns : goal.returns
returns c =
    let bytes = c.args.bytes.now in
    runs_list _ _ _ _ base_least _ c.held_in.result (start_of-reading bytes) c.held_in.ensures
    c.run_from.ensures

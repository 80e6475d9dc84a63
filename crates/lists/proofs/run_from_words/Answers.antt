-- `lists::run_from_words` meets its contract.
use Rattle.rules.specs.Sizes.{base_wanted}
use Rattle.rules.proofs.Lists.{start_of_building_lem}
use Rattle.lists.proofs.Outcomes.{runs_list}
use Rattle.lists.proofs.run_from_words.Goals as goal

pub returns : goal.returns
returns c =
    let s = c.args in
    runs_list _ _ _ _ base_wanted _ c.held_of.result (start_of_building_lem s.kind s.words.now)
    c.held_of.ensures c.run_from.ensures

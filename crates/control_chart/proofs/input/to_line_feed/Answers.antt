-- `control_chart::input::to_line_feed` meets its contract.
use Rattle.std.proofs.Common.{rules, tests, eqb, ◌∙◌}
use Rattle.std.proofs.lemmas.Iterator.{YieldsList-from_slice}
use Rattle.std.proofs.lemmas.Iterator.Search.{position_from_yields_List}
use Rattle.control_chart.proofs.Taking.{feed_found_at}
use Rattle.control_chart.proofs.input.to_line_feed.Goals as goal

pub returns-clause-place : goal.returns-clause-place
returns-clause-place c =
    let bytes = c.args.bytes.now in
    let found =
    position_from_yields_List (λ b. eqb b 10) _ _ _ c.position.ensures.ran (YieldsList-from_slice bytes cc)
    (λ x b q h. search (rules, tests)) in
    c.unwrap_or.ensures ∙ feed_found_at bytes _ found

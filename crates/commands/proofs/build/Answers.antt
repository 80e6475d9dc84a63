-- `commands::build` meets its contract.
use mathlib.Core.Path.{ap, ◌∙◌}
use Rattle.parsing.specs.Number.{kind_in_field}
use Rattle.chart.specs.Chart.{build_says}
use Rattle.commands.specs.Command.{words_in}
use Rattle.rules.proofs.Buffer.{front_fits, front_counted, front_is}
use Rattle.commands.proofs.Fields.{number_is, rest_is}
use Rattle.commands.proofs.Replying.{builds_same, replies_build}
use Rattle.commands.proofs.build.Goals as goal

pub slice_bounds-words-end : goal.slice_bounds-words-end
slice_bounds-words-end c =
    front_fits c.put_words-n.ensures

pub slice_bounds-build-end : goal.slice_bounds-build-end
slice_bounds-build-end c =
    front_counted c.put_words-n.ensures

pub returns : goal.returns
unfolding build_says
returns c =
    let split = c.split_field.ensures.split in
    let is_kind_lem = c.kind_in_field.ensures ∙ ap kind_in_field (c.number_in_field.ensures ∙ number_is _ split) in
    let are_words = front_is c.put_words-n.ensures ∙ ap words_in (rest_is _ split) in
    replies_build c.args.chart _ _ c.build-r.result (builds_same is_kind_lem are_words c.build-r.ensures)
    c.chart_kept.ensures (c.put_build-size.ensures _)

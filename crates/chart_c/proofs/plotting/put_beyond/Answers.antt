-- `chart_c::plotting::put_beyond` meets its contract.
use mathlib.Core.Path.{◌∙◌}
use Rattle.lines.specs.Lines.{beyond_says}
use Rattle.refusals.specs.Refusal.{answered_number, refusal_number}
use Rattle.chart_c.specs.Plotting.{flags_of}
use Rattle.chart_c.proofs.Drawn.{copied_front, flags_are, beyond_short, beyond_put}
use Rattle.chart_c.proofs.plotting.put_beyond.Goals as goal

pub returns-then-buffer-lt-BEYOND_SIZE : goal.returns-then-buffer-lt-BEYOND_SIZE
unfolding answered_number refusal_number
returns-then-buffer-lt-BEYOND_SIZE c = beyond_short _ _ c.if-buffer-lt-BEYOND_SIZE.true

pub returns : goal.returns
unfolding answered_number beyond_says flags_of
returns c =
    let flags = flags_are (beyond_says c.args.b) c.from.ensures c.from-2.ensures c.from-3.ensures c.from-4.ensures in
    beyond_put _ _ c.if-buffer-lt-BEYOND_SIZE.false _ (copied_front _ _ (c.copy_from_slice.ensures.after ∙ flags))

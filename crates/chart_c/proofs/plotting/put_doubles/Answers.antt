-- `chart_c::plotting::put_doubles` meets its contract.
use Rattle.refusals.specs.Refusal.{answered_number, refusal_number}
use Rattle.chart_c.proofs.Drawn.{copied_front, doubles_short, doubles_put}
use Rattle.chart_c.proofs.plotting.put_doubles.Goals as goal

pub returns-then-buffer-n : goal.returns-then-buffer-n
unfolding answered_number refusal_number
returns-then-buffer-n c = doubles_short _ _ _ c.if-buffer-n.true

pub returns : goal.returns
unfolding answered_number
returns c = doubles_put _ _ _ c.if-buffer-n.false _ (copied_front _ _ c.copy_from_slice.ensures.after)

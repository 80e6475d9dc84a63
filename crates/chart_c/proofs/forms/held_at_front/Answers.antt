-- `chart_c::forms::held_at_front` meets its contract.
use Prim.Native.Nat.{◌≤◌}
use borrow.Author.Tests.{le-leb, lt-leb}
use lib.ListN.{length}
use Rattle.refusals.specs.Refusal.{refusal_number}
use Rattle.chart.specs.Checked.{chart_says}
use Rattle.store.specs.HeldChart.{chart_of_start}
use Rattle.chart_c.specs.Forms.{front_start}
use Rattle.chart_c.proofs.forms.held_at_front.Goals as goal

pub returns-then-buffer-size : goal.returns-then-buffer-size
unfolding front_start chart_of_start refusal_number chart_says
returns-then-buffer-size c = record { says = rw (lt-leb c.args.size (length c.args.buffer.now) c.if-buffer-size.true) }

pub returns : goal.returns
unfolding front_start
returns c =
    let fits : c.args.size ≤ length c.args.buffer.now = c.if-buffer-size.false in
    let a = c.args in
    rw (le-leb a.size (length a.buffer.now) fits) c.held_in.ensures

-- `control_chart::input::take_part` meets its contract.
use mathlib.Core.Path.{◌≡◌}
use mathlib.Core.Bool.{true, false}
use native.Mathlib.Omega.{arith}
use Rattle.printing.proofs.Putting.{puts_within}
use Rattle.control_chart.proofs.Taking.{held_part, held_end}
use Rattle.control_chart.proofs.input.take_part.Goals as goal

pub returns-then-not-ends : goal.returns-then-not-ends
returns-then-not-ends c =
    let goes_on : c.args.ends ≡ false = c.if-not-ends.true in
    record {
      within = puts_within c.requires.room.within c.put_text-len.ensures;
      follows = λ s held. rw goes_on (held_part s c.args.pending held c.put_text-len.ensures);
    }

pub returns : goal.returns
returns c =
    let ended = c.end_line.ensures in
    let ends : c.args.ends ≡ true = c.if-not-ends.false in
    record {
      within = omega (arith, ended.none);
      follows = λ s held.
          rw ends (held_end s c.args.pending held c.put_text-len.ensures c.end_line.result c.requires.room.enough ended);
    }

-- `control_chart::input::take_all` meets its contract.
use mathlib.Core.Path.{refl}
use borrow.Author.Rules.{rules}
use Rattle.control_chart.proofs.Taking.{none_came, so_came, last_came, more_came}
use Rattle.control_chart.proofs.input.take_all.Goals as goal

pub loop-init : goal.loop-init
loop-init c = none_came c.requires

pub returns-in-Break : goal.returns-in-Break
returns-in-Break c = last_came c.loop.invariant c.in-Break.ensures.came

pub loop-preserved : goal.loop-preserved
loop-preserved c =
    let some = c.in-Continue.ensures in
    more_came c.loop.invariant some.came (some.goes_on refl) (some.told refl) (search rules)

pub returns : goal.returns
returns c = so_came c.loop.invariant

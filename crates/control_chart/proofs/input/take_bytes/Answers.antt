-- `control_chart::input::take_bytes` meets its contract.
use mathlib.Core.Path.{sym, ◌∙◌}
use mathlib.Core.Bool.{false≢true}
use native.Mathlib.Omega.{arith}
use borrow.Author.Rules.{rules}
use borrow.Author.Tests.{not-true, not-false}
use Rattle.control_chart.proofs.Places.{behind_feed}
use Rattle.control_chart.proofs.Taking.{none_taken, part_taken, still_can}
use Rattle.control_chart.proofs.input.take_bytes.Goals as goal

pub loop-at-init : goal.loop-at-init
loop-at-init c = none_taken _ c.requires

pub returns-then-not-kept : goal.returns-then-not-kept
returns-then-not-kept c =
    let keeps = c.take_part-kept.ensures in
    record {
      count = c.after_line_feed-at.result;
      all = λ told. absurd (false≢true (sym (not-true _ c.if-not-kept.true) ∙ told));
      keeps =
          record {
            within = keeps.within;
            follows =
                part_taken _ _ _ _ c.loop-at.invariant c.line_end-end.ensures.place c.after_line_feed-at.ensures keeps.follows;
          };
    }

pub loop-at-preserved : goal.loop-at-preserved
loop-at-preserved c =
    let inv = c.loop-at.invariant in
    let keeps = c.take_part-kept.ensures in
    let next =
    behind_feed c.loop-at.at c.line_end-end.result _ c.after_line_feed-at.result
    (omega (arith, c.line_end-end.ensures.place)) c.line_end-end.ensures.within (omega arith) c.after_line_feed-at.ensures in
    record {
      place = next.within;
      can = still_can inv.can (search rules) keeps.within (not-false _ c.if-not-kept.false);
      same_size = search rules;
      follows = part_taken _ _ _ _ inv c.line_end-end.ensures.place c.after_line_feed-at.ensures keeps.follows;
    }

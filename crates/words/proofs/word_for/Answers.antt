-- `words::word_for` meets its contract.
use borrow.Author.Tests.{eq-eqb, ne_eqb}
use mir.Facts.{to_z-of_z}
use Rattle.rules.specs.Machine.{word_for}
use Rattle.refusals.specs.Refusal.{result_says, refusal_number}
use Rattle.words.proofs.word_for.Goals as goal

pub returns-then-kind-chart_kind : goal.returns-then-kind-chart_kind
unfolding word_for result_says refusal_number
returns-then-kind-chart_kind c = rw (ne_eqb c.args.kind c.args.chart_kind c.if-kind-chart_kind.true)

pub returns : goal.returns
unfolding word_for
returns c =
    rw (eq-eqb c.args.kind c.args.chart_kind c.if-kind-chart_kind.false)
    (rw (to_z-of_z c.ranges.a, to_z-of_z c.ranges.b, to_z-of_z c.ranges.c) at c.from_reading.ensures)

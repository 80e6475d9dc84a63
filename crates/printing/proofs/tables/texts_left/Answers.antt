-- `printing::tables::texts_left` meets its contract.
use borrow.Author.Tests.{eq-eqb, ne_eqb}
use Rattle.printing.specs.Table.{line_feed}
use Rattle.printing.proofs.tables.texts_left.Goals as goal

pub returns-then-b-eq10 : goal.returns-then-b-eq10
returns-then-b-eq10 c = rw (eq-eqb c.args.b line_feed c.if-b-eq10.true)

pub returns-else-b-eq10 : goal.returns-else-b-eq10
returns-else-b-eq10 c = rw (ne_eqb c.args.b line_feed c.if-b-eq10.false)

-- `printing::tables::text_start` meets its contract. The loop's invariant: after the texts that are left comes what comes after all.
use mathlib.Core.Path.{refl, sym, ap, ◌∙◌}
use native.Mathlib.Omega.{arith}
use lib.ListN.{drop}
use Rattle.printing.specs.Table.{after_texts}
use Rattle.printing.proofs.TextTables.{after_zero, after_next, after_end}
use Rattle.printing.proofs.tables.text_start.Goals as goal

pub loop-i-init : goal.loop-i-init
loop-i-init c = refl

pub returns-then-left-eq0 : goal.returns-then-left-eq0
returns-then-left-eq0 c =
    let rest = drop c.loop-i.i c.args.table.now in
    after_zero rest ∙ ap (after_texts rest) (sym c.if-left-eq0.true) ∙ c.loop-i.invariant

pub loop-i-preserved : goal.loop-i-preserved
loop-i-preserved c =
    let table = c.args.table.now in
    after_next table c.loop-i.i c.loop-i.left (omega arith) c.loop-i-test.true c.texts_left-left.ensures ∙ c.loop-i.invariant

pub returns : goal.returns
returns c =
    after_end c.args.table.now c.loop-i.i c.loop-i.left c.loop-i-test.false ∙ c.loop-i.invariant

-- `printing::tables::put_first_text` meets its contract. The loop's invariant: the text is put up to the place i.
use Rattle.printing.proofs.Putting.{so_far_none, so_far_more, so_far_all, puts_length}
use Rattle.printing.proofs.TextTables.{first_next, first_ends, first_end}
use Rattle.printing.proofs.tables.put_first_text.Goals as goal

pub loop-i-init : goal.loop-i-init
loop-i-init c = so_far_none

pub shape_of-out-then-table-i-eq10 : goal.shape_of-out-then-table-i-eq10
shape_of-out-then-table-i-eq10 c = puts_length c.loop-i.invariant.puts

pub returns-then-table-i-eq10 : goal.returns-then-table-i-eq10
returns-then-table-i-eq10 c =
    let table = c.args.table.now in
    so_far_all c.loop-i.invariant (first_ends table c.loop-i.i c.loop-i-test.true c.if-table-i-eq10.true)

pub loop-i-preserved : goal.loop-i-preserved
loop-i-preserved c =
    let table = c.args.table.now in
    so_far_more c.loop-i.invariant (first_next table c.loop-i.i c.loop-i-test.true c.if-table-i-eq10.false) c.put_byte-next.ensures

pub shape_of-out : goal.shape_of-out
shape_of-out c = puts_length c.loop-i.invariant.puts

pub returns : goal.returns
returns c =
    so_far_all c.loop-i.invariant (first_end c.args.table.now c.loop-i.i c.loop-i-test.false)

-- `printing::tables::put_text_of` meets its contract: the text that starts at the place found, or the other text.
use Rattle.printing.proofs.TextTables.{puts_found, puts_other}
use Rattle.printing.proofs.tables.put_text_of.Goals as goal

pub returns-then-start-table : goal.returns-then-start-table
returns-then-start-table c =
    puts_found _ _ _ _ c.text_start-start.ensures c.if-start-table.true c.put_first_text.ensures

pub returns : goal.returns
returns c =
    puts_other _ _ _ _ c.text_start-start.ensures c.if-start-table.false c.put_text.ensures

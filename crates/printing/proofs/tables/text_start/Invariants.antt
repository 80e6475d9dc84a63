-- `printing::tables::text_start` meets its contract. The loop's invariant: after the texts that are left comes what comes after all.
use mathlib.Core.Path.{◌≡◌}
use lib.ListN.{drop}
use Rattle.printing.specs.Table.{after_texts}
use Rattle.printing.proofs.tables.text_start.Given as goal

abbrev pub invariant-loop-i : goal.invariant-loop-i
invariant-loop-i l = after_texts (drop l.i l.table) l.left ≡ after_texts l.table l.number

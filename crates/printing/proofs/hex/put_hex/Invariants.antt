-- `printing::hex::put_hex` meets its contract. The loop's invariant: the digits of the bytes before this one are put.
use lib.ListN.{take}
use Rattle.printing.specs.Output.{Puts}
use Rattle.printing.specs.Hex.{hex_of}
use Rattle.printing.proofs.hex.put_hex.Given as goal

abbrev pub invariant-loop-b : goal.invariant-loop-b
invariant-loop-b l = Puts l.initial.out l.at (hex_of (take l.b-index l.bytes)) l.out l.next

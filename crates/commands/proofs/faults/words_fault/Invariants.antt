-- `commands::faults::words_fault` meets its contract. The loop's invariant: no word before the present field has a fault.
use Prim.Native.Nat.{◌+◌}
use lib.ListN.{length}
use Rattle.commands.proofs.FirstFault.{FaultsFrom}
use Rattle.commands.proofs.faults.words_fault.Given as goal

abbrev pub invariant-loop-field : goal.invariant-loop-field
invariant-loop-field l = FaultsFrom l.fields l.field l.rest

abbrev pub decreases-loop-field : goal.decreases-loop-field
decreases-loop-field l = length l.field + length l.rest

-- `commands::faults::hex_fault` meets its contract.
use Prim.Native.Nat.{◌%◌}
use borrow.Author.Tests.{eq-eqb, ne_eqb}
use lib.ListN.{length}
use Rattle.rules.proofs.Booleans.{answered_no, answered_yes}
use Rattle.commands.specs.Command.{hex_fault}
use Rattle.commands.proofs.faults.hex_fault.Goals as goal

pub returns-then-not-are_hex : goal.returns-then-not-are_hex
unfolding hex_fault
returns-then-not-are_hex c = rw (answered_no c.are_hex.ensures c.if-not-are_hex.true)

pub returns-then-text-ne0 : goal.returns-then-text-ne0
unfolding hex_fault
returns-then-text-ne0 c =
    let digits = length c.args.text.now in
    rw (answered_yes c.are_hex.ensures c.if-not-are_hex.false, ne_eqb (digits % 2) 0 c.if-text-ne0.true)

pub returns : goal.returns
unfolding hex_fault
returns c =
    let digits = length c.args.text.now in
    rw (answered_yes c.are_hex.ensures c.if-not-are_hex.false, eq-eqb (digits % 2) 0 c.if-text-ne0.false)

-- `printing::hex::put_hex` meets its contract.
use Rattle.printing.specs.Hex.{hex_of}
use Rattle.printing.proofs.Putting.{puts_none, puts_next, puts_all, puts_length}
use Rattle.printing.proofs.HexDigits.{hex_joins}
use Rattle.printing.proofs.hex.put_hex.Goals as goal

pub loop-b-init : goal.loop-b-init
unfolding hex_of
loop-b-init c = puts_none c.args.out.now c.args.at

pub loop-b-preserved : goal.loop-b-preserved
loop-b-preserved c =
    puts_next hex_of c.args.bytes.now c.loop-b.b-index 0 hex_joins c.loop-b-test.true c.loop-b.invariant c.put_hex_byte-next.ensures

pub shape_of-out : goal.shape_of-out
shape_of-out c = puts_length c.loop-b.invariant

pub returns : goal.returns
returns c = puts_all hex_of c.args.bytes.now c.loop-b.b-index c.loop-b-test.false c.loop-b.invariant

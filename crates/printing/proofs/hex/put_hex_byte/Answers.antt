-- `printing::hex::put_hex_byte` meets its contract: the higher digit, and the lower after it.
use Rattle.printing.proofs.HexDigits.{puts_hex_byte}
use Rattle.printing.proofs.hex.put_hex_byte.Goals as goal

pub returns : goal.returns
returns c =
    puts_hex_byte c.args.b c.hex_digit.ensures c.hex_digit-2.ensures
    c.put_byte-next.ensures c.put_byte.ensures

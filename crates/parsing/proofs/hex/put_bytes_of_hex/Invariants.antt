-- `parsing::hex::put_bytes_of_hex` meets its contract. The loop's invariant: a byte stands at the buffer's front for each pair so far.
use mathlib.Core.Path.{◌≡◌}
use Rattle.std.specs.Iterator.Adapters.{enumerate_source, enumerate_count}
use Rattle.std.specs.Slice.Iter.{chunks_exact_rest, chunks_exact_size}
use Rattle.parsing.proofs.HexBytes.{BytesPut}
use Rattle.parsing.proofs.hex.put_bytes_of_hex.Given as goal

abbrev pub invariant-loop-i : goal.invariant-loop-i
invariant-loop-i l = record {
  two : chunks_exact_size (enumerate_source l.i-iterator) ≡ 2;
  put : BytesPut l.text (chunks_exact_rest (enumerate_source l.i-iterator)) l.initial.bytes l.bytes (enumerate_count l.i-iterator);
}

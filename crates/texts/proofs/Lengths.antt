-- Laws of the texts' lengths: each fits 64 bytes, with one more byte after it.
use mathlib.Core.Path.{refl}
use Prim.Native.Nat.{ℕ, ◌<◌}
use lib.Dec.{lit≤}
use lib.ListN.{length}
use Rattle.printing.specs.Ascii.{ascii}
use Rattle.printing.proofs.TextTables.{all_shorter, text_short}
use Rattle.texts.specs.Texts.{refusal_texts, refusal_meaning, verdict_texts, verdict_meaning, version}

pub refusal_short : (n : ℕ) → length (refusal_meaning n) < 64
unfolding refusal_meaning refusal_texts all_shorter
refusal_short n = text_short 64 refusal_texts refl n (ascii "no such number") (lit≤ tt)

pub verdict_short : (n : ℕ) → length (verdict_meaning n) < 64
unfolding verdict_meaning verdict_texts all_shorter
verdict_short n = text_short 64 verdict_texts refl n (ascii "no such verdict") (lit≤ tt)

pub version_short : length version < 64
unfolding version
version_short = lit≤ tt

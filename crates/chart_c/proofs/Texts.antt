-- Laws of texts for C: bytes that were put at the front of a buffer with room for them (`put_at_front`), and a text as a string in the lent
-- buffer (`text_short`, `text_put`, `string_of_lem`).
use mathlib.Core.Path.{◌≡◌, sym}
use mathlib.Core.List.{List, [], ◌∷◌}
use Prim.Native.Nat.{ℕ, ◌≤◌, ◌<◌}
use native.Mathlib.Omega.{arith}
use lib.ListN.{length, take, length-append}
use borrow.Author.Tests.{lt-ltb, le-ltb}
use Rattle.rules.specs.Buffer.{at_front, Placed}
use Rattle.rules.proofs.Buffer.{front_is}
use Rattle.printing.specs.Output.{Puts}
use Rattle.printing.proofs.Putting.{puts_room, puts_then}
use Rattle.chart_c.specs.Lent.{answered_number, lent_after}
use Rattle.chart_c.specs.Texts.{string_of, text_into, PutsText}

-- ---- bytes at the front of a buffer with room for them

pub put_at_front : {before after : List ℕ} {n : ℕ} (x : List ℕ) → length x ≤ length before → Puts before 0 x after n
    → Placed before 0 x after n
put_at_front x room puts = puts_room x (omega arith) puts

-- a text of `texts` in a buffer of 64 bytes
pub shown : {before after : List ℕ} {n : ℕ} (text : List ℕ) → length text < 64 → length before ≡ 64 → Puts before 0 text after n
    → Placed before 0 text after n
shown text short room puts = put_at_front text (omega arith) puts

-- ---- the text as a string in a lent buffer

module _ (text before : List ℕ) where
  pub text_short : length before ≤ length text → PutsText text before before 15
  unfolding text_into answered_number lent_after
  text_short h = let short = le-ltb (length text) (length before) h in record { answered = rw short; buffer = rw short }

  pub text_put : length text < length before → {copied after : List ℕ} {n end : ℕ} → Puts before 0 text copied n
      → Puts copied n (0 ∷ []) after end → PutsText text before after 0
  unfolding text_into answered_number lent_after at_front
  text_put h first second =
      let room = lt-ltb (length text) (length before) h in
      let string = put_at_front (string_of text) (omega (arith, length-append text (0 ∷ []))) (puts_then first second) in
      record { answered = rw room; buffer = rw room string.buffer }

-- the string made from the function's own buffer is that of the text
pub string_of_lem : {text own shown before after : List ℕ} {n number : ℕ} → Placed own 0 text shown n
    → PutsText (take n shown) before after number → PutsText text before after number
string_of_lem s put = rw (sym (front_is s)) put

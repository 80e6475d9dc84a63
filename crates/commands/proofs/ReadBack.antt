-- The line `read` with the digits that `write` prints for a sound chart is a command without fault. It gives the chart that was written
-- (`read_back`).
use mathlib.Core.Path.{◌≡◌, refl, ap, ◌∙◌}
use mathlib.Core.Bool.{true, false}
use mathlib.Core.List.{List, [], ◌∷◌, ◌++◌}
use Prim.Native.Nat.{ℕ, ◌+◌, ◌*◌, ◌/◌, ◌%◌, ◌<◌, ◌≤◌}
use native.Mathlib.Omega.{arith}
use borrow.Author.Tests.{le-leb, lt-leb, ltb-true, ltb-false, eq-eqb, ne_eqb}
use lib.Dec.{ltb}
use lib.ListN.{length, length-append}
use Rattle.rules.specs.Sizes.{base_most, series_most}
use Rattle.rules.specs.StoredForm.{stored_form}
use Rattle.rules.proofs.Booleans.{by_test}
use Rattle.rules.proofs.Soundness.{sound_facts}
use Rattle.rules.proofs.ReadForm.{length_form, read_stored}
use Rattle.rules.proofs.StoredForm.{AllBelow, stored_bytes}
use Rattle.chart.specs.declared.Chart.{Chart}
use Rattle.chart.specs.Chart.{state_of}
use Rattle.chart.specs.Soundness.{sound_chart}
use Rattle.chart.proofs.State.{given, chart_of-state}
use Rattle.parsing.specs.Bytes.{all_bytes, same_bytes}
use Rattle.parsing.specs.Fields.{is_blank, in_front, fields_of}
use Rattle.parsing.specs.Number.{is_digit}
use Rattle.parsing.specs.Hex.{is_lower_hex, is_hex, are_hex, hex_value, bytes_of_hex}
use Rattle.printing.specs.Hex.{hex_digit, hex_of}
use Rattle.printing.proofs.HexDigits.{hex_length, hex_figure, hex_letter}
use Rattle.printing.specs.Ascii.{ascii}
use Rattle.replies.specs.Texts.{bytes_text, reading_text}
use Rattle.commands.specs.Command.{no_fault, line_most, asked, read_fault, hex_fault, command_for, name_in, named_line, line_of, line_in}
use Rattle.commands.specs.Command as command
use Rattle.commands.specs.Reply.{reply_to, chart_read, chart_after_command}

-- ---- a hex digit that was printed is read as a hex digit, and stands for the number that was printed

record Printed (d : ℕ) : Type 0 where
  is_hex_lem : is_hex (hex_digit d) ≡ true
  value : hex_value (hex_digit d) ≡ d
  no_blank : is_blank (hex_digit d) ≡ false

printed_figure : (d : ℕ) → d < 10 → Printed d
unfolding is_hex hex_value is_digit is_blank
printed_figure d h =
    let low = le-leb 48 (48 + d) (omega arith) in
    let high = le-leb (48 + d) 57 (omega arith) in
    record {
      is_hex_lem = rw (hex_figure d h, low, high);
      value = rw (hex_figure d h, low, high) (omega arith);
      no_blank = rw (hex_figure d h, ne_eqb (48 + d) 32 (λ e. omega arith), ne_eqb (48 + d) 9 (λ e. omega arith));
    }

printed_letter : (d : ℕ) → 10 ≤ d → d < 16 → Printed d
unfolding is_hex hex_value is_digit is_lower_hex is_blank
printed_letter d h k =
    let no_digit = lt-leb (87 + d) 57 (omega arith) in
    let digit_low = le-leb 48 (87 + d) (omega arith) in
    let low = le-leb 97 (87 + d) (omega arith) in
    let high = le-leb (87 + d) 102 (omega arith) in
    record {
      is_hex_lem = rw (hex_letter d h, digit_low, no_digit, low, high);
      value = rw (hex_letter d h, digit_low, no_digit, low, high) (omega arith);
      no_blank = rw (hex_letter d h, ne_eqb (87 + d) 32 (λ e. omega arith), ne_eqb (87 + d) 9 (λ e. omega arith));
    }

printed : (d : ℕ) → d < 16 → Printed d
printed d h =
    by_test (ltb d 10)
    (λ t. printed_figure d (ltb-true d 10 t))
    (λ t. printed_letter d (ltb-false d 10 t) h)

-- the two digits of a byte
higher : (b : ℕ) → b < 256 → Printed (b / 16)
higher b h = printed (b / 16) (omega arith)

lower : (b : ℕ) → Printed (b % 16)
lower b = printed (b % 16) (omega arith)

-- ---- the same for bytes

hex_is_hex : (bytes : List ℕ) → AllBelow 256 bytes → are_hex (hex_of bytes) ≡ true
unfolding are_hex all_bytes hex_of
hex_is_hex [] h = refl
hex_is_hex (b ∷ bytes) h = rw ((higher b h.0).is_hex_lem, (lower b).is_hex_lem) (hex_is_hex bytes h.1)

hex_back : (bytes : List ℕ) → AllBelow 256 bytes → bytes_of_hex (hex_of bytes) ≡ bytes
unfolding bytes_of_hex hex_of
hex_back [] h = refl
hex_back (b ∷ bytes) h =
    let byte : b / 16 * 16 + b % 16 ≡ b = omega arith in
    rw ((higher b h.0).value, (lower b).value, byte, hex_back bytes h.1)

-- digits are one field
same_field : (b next : ℕ) (rest : List ℕ) → is_blank b ≡ false → is_blank next ≡ false
    → fields_of (b ∷ next ∷ rest) ≡ in_front b (fields_of (next ∷ rest))
unfolding fields_of
same_field b next rest t u = rw (t, u)

hex_field : (b : ℕ) (bytes : List ℕ) → b < 256 → AllBelow 256 bytes → fields_of (hex_of (b ∷ bytes)) ≡ hex_of (b ∷ bytes) ∷ []
unfolding hex_of fields_of
hex_field b [] h k = rw ((higher b h).no_blank, (lower b).no_blank)
hex_field b (c ∷ bytes) h k =
    let rest = hex_digit (c % 16) ∷ hex_of bytes in
    let next = same_field (hex_digit (b % 16)) (hex_digit (c / 16)) rest (lower b).no_blank (higher c k.0).no_blank in
    same_field (hex_digit (b / 16)) (hex_digit (b % 16)) (hex_digit (c / 16) ∷ rest) (higher b h).no_blank (lower b).no_blank
    ∙ ap (in_front (hex_digit (b / 16))) (next ∙ ap (in_front (hex_digit (b % 16))) (hex_field c bytes k.0 k.1))

-- ---- the line

module _ (b : ℕ) (bytes : List ℕ) (h : AllBelow 256 (b ∷ bytes)) where
  fields_are : fields_of (ascii "read " ++ hex_of (b ∷ bytes)) ≡ ascii "read" ∷ hex_of (b ∷ bytes) ∷ []
  unfolding fields_of is_blank
  fields_are = ap (λ (fields : List (List ℕ)). ascii "read" ∷ fields) (hex_field b bytes h.0 h.1)

  faultless : read_fault (hex_of (b ∷ bytes) ∷ []) ≡ no_fault
  unfolding read_fault hex_fault
  faultless =
      let digits = hex_of (b ∷ bytes) in
      let even : length digits % 2 ≡ 0 = omega (arith, hex_length (b ∷ bytes)) in
      rw (hex_is_hex (b ∷ bytes) h, eq-eqb (length digits % 2) 0 even)

  fields_read : line_of (ascii "read" ∷ hex_of (b ∷ bytes) ∷ []) ≡ asked (command.read (b ∷ bytes))
  unfolding line_of name_in named_line command_for same_bytes
  fields_read = rw (faultless, hex_back (b ∷ bytes) h)

-- at most 4,000 bytes, which fit in a line
read_line : (bytes : List ℕ) → AllBelow 256 bytes → 1 ≤ length bytes → length bytes ≤ 4000
    → line_in (ascii "read " ++ hex_of bytes) ≡ asked (command.read bytes)
unfolding line_in
read_line [] h some few = absurd (omega arith)
read_line (b ∷ bytes) h some few =
    let line = ascii "read " ++ hex_of (b ∷ bytes) in
    let short : length line ≤ line_most = rw length-append (omega (arith, hex_length (b ∷ bytes))) in
    rw (le-leb (length line) line_most short) (ap line_of (fields_are b bytes h) ∙ fields_read b bytes h)

-- ---- for a sound chart c with arrays as long as its type says: what `write` replies, and the line that reads it back, on any chart
pub record ReadBack (chart c : Chart) : Type 0 where
  pub written : reply_to c command.write ≡ bytes_text (stored_form (state_of c))
  pub line : line_in (ascii "read " ++ hex_of (stored_form (state_of c))) ≡ asked (command.read (stored_form (state_of c)))
  pub reply : reply_to chart (command.read (stored_form (state_of c))) ≡ ascii "read"
  pub returned : chart_after_command chart (command.read (stored_form (state_of c))) ≡ c

pub read_back : (chart c : Chart) → length c.base ≡ base_most → length c.series ≡ series_most → sound_chart c ≡ true → ReadBack chart c
unfolding reply_to chart_after_command
read_back chart c base series t =
    let s = state_of c in
    let g = given c base series t in
    let sound = g.facts.state in
    let facts = sound_facts s sound in
    let base = facts.base_most_lem in
    let series = facts.series_most_lem in
    let size = length_form s in
    let read = read_stored s sound in
    record {
      written = rw t;
      line = read_line (stored_form s) (stored_bytes s sound) (omega arith) (omega arith);
      reply = ap reading_text read;
      returned = ap (chart_read chart) read ∙ chart_of-state c g;
    }

-- The bytes of hex digits put into a buffer, one for each pair of digits (`BytesPut`).
use mathlib.Core.Path.{◌≡◌, refl, sym, ap, ◌∙◌}
use mathlib.Core.List.{List, [], ◌∷◌, ◌++◌, append_assoc, append-nil}
use Prim.Native.Nat.{ℕ, zero, suc, ◌+◌, ◌*◌, ◌/◌, ◌<◌, ◌≤◌}
use native.Mathlib.Omega.{arith}
use lib.ListN.{length, set, get_or, length-append}
use Rattle.rules.specs.Buffer.{Placed}
use Rattle.rules.proofs.Buffer.{placed_none, placed_more}
use Rattle.parsing.specs.Hex.{hex_value, bytes_of_hex}

-- a byte for every two digits
bytes_length : (text : List ℕ) → length (bytes_of_hex text) ≡ length text / 2
unfolding bytes_of_hex
bytes_length [] = refl
bytes_length (h ∷ []) = refl
bytes_length (h ∷ l ∷ rest) = omega (arith, bytes_length rest)

-- the byte at i is that of the digits at 2·i and 2·i + 1
byte_at : (text : List ℕ) (i : ℕ) → i < length text / 2
    → hex_value (get_or text (2 * i) 0) * 16 + hex_value (get_or text (2 * i + 1) 0) ≡ get_or (bytes_of_hex text) i 0
unfolding bytes_of_hex
byte_at [] i more = absurd (omega arith)
byte_at (h ∷ []) i more = absurd (omega arith)
byte_at (h ∷ l ∷ rest) zero more = refl
byte_at (h ∷ l ∷ rest) (suc i) more =
    let first : 2 * suc i ≡ suc (suc (2 * i)) = omega arith in
    let second : 2 * suc i + 1 ≡ suc (suc (2 * i + 1)) = omega arith in
    rw (second, first) (byte_at rest i (omega arith))

-- a digit alone is left out
bytes_none : (left : List ℕ) → length left < 2 → bytes_of_hex left ≡ []
unfolding bytes_of_hex
bytes_none [] h = refl
bytes_none (h ∷ []) few = refl
bytes_none (h ∷ l ∷ rest) few = absurd (omega arith)

-- the bytes of the digits so far stand at the buffer's front. With those of the digits that are left they are all bytes
pub record BytesPut (text left before after : List ℕ) (i : ℕ) : Type 0 where
  pub bytes : List ℕ
  pub put : Placed before 0 bytes after i
  pub joins : bytes ++ bytes_of_hex left ≡ bytes_of_hex text

pub none_put : (text before : List ℕ) → BytesPut text text before before 0
none_put text before = record { bytes = []; put = placed_none before 0; joins = refl }

module _ {text left before after : List ℕ} {i : ℕ} (so_far : BytesPut text left before after i) where
  joined : {x : List ℕ} → bytes_of_hex left ≡ x → so_far.bytes ++ x ≡ bytes_of_hex text
  joined e = ap (λ (x : List ℕ). so_far.bytes ++ x) (sym e) ∙ so_far.joins

  counted : i + length left / 2 ≡ length text / 2
  counted =
      let count = length-append so_far.bytes (bytes_of_hex left) in
      omega (arith, so_far.put.place, count, ap length so_far.joins, bytes_length left, bytes_length text)

  pub has_room : (pair rest : List ℕ) → length text ≤ length before → left ≡ pair ++ rest → length pair ≡ 2 → i < length before
  has_room pair rest room e two = omega (arith, counted, ap length e, length-append pair rest)

  pub one_put : (pair : List ℕ) {rest : List ℕ} {high low : ℕ} → length text ≤ length before → left ≡ pair ++ rest → length pair ≡ 2
      → high ≡ hex_value (get_or pair 0 0) → low ≡ hex_value (get_or pair 1 0)
      → BytesPut text rest before (set after i (high * 16 + low)) (i + 1)
  unfolding bytes_of_hex
  one_put [] room e two first second = absurd (omega arith)
  one_put (h ∷ []) room e two first second = absurd (omega arith)
  one_put (h ∷ l ∷ x ∷ pair) room e two first second = absurd (omega arith)
  one_put (h ∷ l ∷ []) {rest} {high} {low} room e two first second =
      let b = high * 16 + low in
      let next : bytes_of_hex left ≡ b ∷ bytes_of_hex rest = rw (e, first, second) in
      record {
        bytes = so_far.bytes ++ (b ∷ []);
        put = placed_more so_far.bytes b (omega (arith, has_room (h ∷ l ∷ []) rest room e two, so_far.put.place)) so_far.put;
        joins = append_assoc so_far.bytes (b ∷ []) (bytes_of_hex rest) ∙ joined next;
      }

  pub all_put : length left < 2 → Placed before 0 (bytes_of_hex text) after (length text / 2)
  all_put h =
      let all : so_far.bytes ≡ bytes_of_hex text = sym (append-nil so_far.bytes) ∙ joined (bytes_none left h) in
      let place : i ≡ length text / 2 = omega (arith, counted) in
      rw (all, place) at so_far.put

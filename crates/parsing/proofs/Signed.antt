-- Numbers with a sign: a sign and a natural number as signed 64 bits (`held_negative`, `held_positive`), how the program reads the first
-- byte of a field (`no_byte`, `minus_sign`, `no_sign`), and what a number stands for (`reading_held`, `kind_held`, `word_held`).
use mathlib.Core.Path.{◌≡◌, refl}
use mathlib.Core.Bool.{true, false}
use mathlib.Core.List.{List, [], ◌∷◌}
use Prim.Native.Nat.{ℕ, zero, suc, ◌-◌, ◌^◌}
use native.Mathlib.Omega.{arith}
use lib.ListN.{length, take, drop, get_or}
use lib.Seq.{take_all}
use lib.Dec.{leb, ltb}
use lib.IntN.{ℤ, pos, negsuc, nat_abs, neg_ℤ, ◌-ℤ◌, +ℤ_idl}
use mir.Syntax.{w16, w64}
use mir.Val.{SFits}
use borrow.Author.Tests.{leb-true, ltb-true, le-leb, lt-ltb, eq-eqb, ne_eqb}
use Rattle.std.specs.Prelude.{Option, Some, None, Result, Ok, Err}
use Rattle.std.specs.Option.{SomeIff, ok_or}
use Rattle.std.specs.Result.{OkIff, result_ok, result_unwrap_or}
use Rattle.std.specs.Int.{FitsUnsignedBits}
use Rattle.rules.proofs.Booleans.{by_test}
use Rattle.parsing.specs.declared.numbers.NumberFault.{NumberFault}
use Rattle.parsing.specs.declared.numbers.NumberFault.TheVariants as fault
use Rattle.parsing.specs.Number.{no_number, signed_value, digits_number, number_in_field, number_says}
use Rattle.parsing.specs.Number.{number_within, kind_in_field, word_in_field, reading_in_field}

-- ---- a natural number and its sign

-- zero less n is −n
less : (n : ℕ) → pos 0 -ℤ pos n ≡ neg_ℤ (pos n)
less n = +ℤ_idl (neg_ℤ (pos n))

pub held_negative : (n : ℕ) (r : Option ℤ) → SomeIff r (SFits w64 (pos 0 -ℤ pos n)) (pos 0 -ℤ pos n)
    → number_says (ok_or r fault.Beyond) ≡ signed_value true n
unfolding number_says
held_negative zero None h = absurd (h (record { sfits = omega arith }))
held_negative zero (Some z) h = rw h.1
held_negative (suc n) None h =
    by_test (leb (suc n) (2 ^ 63))
    (λ t. absurd ((rw (less (suc n)) at h) (record { sfits = omega (arith, leb-true (suc n) (2 ^ 63) t) })))
    (λ t. rw t)
held_negative (suc n) (Some z) h =
    let h = rw (less (suc n)) at h in
    rw (h.1, le-leb (suc n) (2 ^ 63) (omega (arith, h.0.sfits)))

pub held_positive : {E : Type 0} (n : ℕ) (r : Result ℤ E) → OkIff r (SFits w64 (pos n)) (pos n)
    → number_says (ok_or (result_ok r) fault.Beyond) ≡ signed_value false n
unfolding number_says
held_positive n (Ok z) h = rw (h.1, lt-ltb n (2 ^ 63) h.0.sfits)
held_positive n (Err e) h =
    by_test (ltb n (2 ^ 63))
    (λ t. absurd (h (record { sfits = ltb-true n (2 ^ 63) t })))
    (λ t. rw t)

-- ---- the first byte of a field

pub no_byte : (text : List ℕ) → length text ≡ 0 → no_number ≡ number_in_field text
unfolding number_in_field
no_byte [] e = refl
no_byte (b ∷ text) e = absurd (omega arith)

-- the part of the text after a minus sign
pub minus_sign : (text : List ℕ) → (length text ≡ 0 → ⊥) → get_or text 0 0 ≡ 45
    → number_in_field text ≡ digits_number true (take (length text - 1) (drop 1 text))
unfolding number_in_field
minus_sign [] some e = absurd (some refl)
minus_sign (b ∷ text) some e = rw (eq-eqb b 45 e, take_all (length (b ∷ text) - 1) text (omega arith))

pub no_sign : (text : List ℕ) → (length text ≡ 0 → ⊥) → (get_or text 0 0 ≡ 45 → ⊥) → number_in_field text ≡ digits_number false text
unfolding number_in_field
no_sign [] some ne = absurd (some refl)
no_sign (b ∷ text) some ne = rw (ne_eqb b 45 ne)

-- ---- what a number stands for

pub reading_held : (n : Result ℤ NumberFault) → result_unwrap_or n (pos 0) ≡ reading_in_field (number_says n)
unfolding reading_in_field number_says
reading_held (Ok z) = refl
reading_held (Err fault.NoNumber) = refl
reading_held (Err fault.Beyond) = refl

-- a fault counts as no kind, and as a word out of range
pub fault_held : (f : NumberFault) → (0 ≡ kind_in_field (number_says (Err f))) × (pos 32767 ≡ word_in_field (number_says (Err f)))
unfolding kind_in_field word_in_field number_within number_says
fault_held fault.NoNumber = (refl, refl)
fault_held fault.Beyond = (refl, refl)

pub kind_held : {E : Type 0} (z : ℤ) (r : Result ℕ E) → OkIff r (FitsUnsignedBits 16 z) (nat_abs z)
    → result_unwrap_or r 0 ≡ kind_in_field (number_says (Ok z))
unfolding kind_in_field number_within number_says
kind_held (pos n) (Ok k) h = rw (le-leb 0 n (omega arith), le-leb n 65535 (omega (arith, h.0))) h.1
kind_held (pos n) (Err e) h =
    by_test (leb n 65535)
    (λ t. absurd (h (omega (arith, leb-true n 65535 t))))
    (λ t. rw (le-leb 0 n (omega arith), t))
kind_held (negsuc n) (Ok k) h = absurd h.0
kind_held (negsuc n) (Err e) h = refl

pub word_held : {E : Type 0} (z : ℤ) (r : Result ℤ E) → OkIff r (SFits w16 z) z
    → result_unwrap_or r (pos 32767) ≡ word_in_field (number_says (Ok z))
unfolding word_in_field number_within number_says
word_held (pos n) (Ok w) h = rw (le-leb n 32767 (omega (arith, h.0.sfits))) h.1
word_held (pos n) (Err e) h =
    by_test (leb n 32767)
    (λ t. absurd (h (record { sfits = omega (arith, leb-true n 32767 t) })))
    (λ t. rw t)
word_held (negsuc n) (Ok w) h = rw (le-leb n 32767 (omega (arith, h.0.sfits))) h.1
word_held (negsuc n) (Err e) h =
    by_test (leb n 32767)
    (λ t. absurd (h (record { sfits = omega (arith, leb-true n 32767 t) })))
    (λ t. rw t)

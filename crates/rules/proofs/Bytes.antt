-- Laws of numbers in two bytes and of words in two's complement: the number of bytes (`length_bytes`), numbers read back from their bytes
-- (`number_there`, `numbers_there`), bytes made again from their numbers (`bytes_back`), and words and their numbers (`word_back`,
-- `number_back`).
use mathlib.Core.Path.{◌≡◌, refl, ap, ◌∙◌}
use mathlib.Core.Bool.{true}
use mathlib.Core.List.{List, [], ◌∷◌, ◌++◌, map}
use Prim.Native.Nat.{ℕ, zero, suc, ◌+◌, ◌*◌, ◌-◌, ◌/◌, ◌%◌, ◌<◌, ◌≤◌}
use native.Mathlib.Omega.{arith}
use lib.ListN.{length, drop, get_or}
use lib.Seq.{get_or-drop, drop-drop}
use lib.IntN.{ℤ, pos, negsuc}
use lib.Dec.{ltb}
use mir.Syntax.{w16}
use mir.Val.{SFits}
use borrow.Author.Tests.{lt-ltb, le-ltb}
use Rattle.rules.specs.Kind.{in_range}
use Rattle.rules.specs.AllOf.{all_of}
use Rattle.rules.specs.Building.{all_in_range}
use Rattle.rules.specs.Bytes.{bytes_of, number_in, numbers_in, number_of, word_of}
use Rattle.rules.proofs.Booleans.{both, by_test}
use Rattle.rules.proofs.Kind.{in_range_fits}

-- ---- the bytes of numbers

pub length_bytes : (ns : List ℕ) → length (bytes_of ns) ≡ 2 * length ns
unfolding bytes_of
length_bytes [] = refl
length_bytes (n ∷ ns) = rw (length_bytes ns) (omega arith)

pub bytes_joined : (xs ys : List ℕ) → bytes_of (xs ++ ys) ≡ bytes_of xs ++ bytes_of ys
unfolding bytes_of
bytes_joined [] ys = refl
bytes_joined (x ∷ xs) ys = ap (λ (l : List ℕ). bytes_of (x ∷ []) ++ l) (bytes_joined xs ys)

-- the first number is read from its bytes, and the bytes of the others follow
pub number_there : (n : ℕ) (ns rest : List ℕ) → number_in (bytes_of (n ∷ ns) ++ rest) ≡ n
unfolding bytes_of number_in
number_there n ns rest = omega arith

pub bytes_after : (n : ℕ) (ns rest : List ℕ) → drop 2 (bytes_of (n ∷ ns) ++ rest) ≡ bytes_of ns ++ rest
unfolding bytes_of
bytes_after n ns rest = refl

pub numbers_there : (ns rest : List ℕ) → numbers_in (length ns) (bytes_of ns ++ rest) ≡ ns
unfolding numbers_in
numbers_there [] rest = refl
numbers_there (n ∷ ns) rest =
    let others = ap (numbers_in (length ns)) (bytes_after n ns rest) ∙ numbers_there ns rest in
    λ i. number_there n ns rest i ∷ others i

-- ---- the numbers in bytes

pub length_numbers : (n : ℕ) (bytes : List ℕ) → length (numbers_in n bytes) ≡ n
unfolding numbers_in
length_numbers zero bytes = refl
length_numbers (suc n) bytes = ap suc (length_numbers n (drop 2 bytes))

-- number i of the numbers in bytes
pub number_at : (n i : ℕ) (bytes : List ℕ) → i < n → get_or (numbers_in n bytes) i 0 ≡ number_in (drop (2 * i) bytes)
unfolding numbers_in
number_at zero i bytes h = absurd (omega arith)
number_at (suc n) zero bytes h = refl
number_at (suc n) (suc i) bytes h =
    let place : 2 + 2 * i ≡ 2 * suc i = omega arith in
    number_at n i (drop 2 bytes) (omega arith) ∙ ap number_in (drop-drop (2 * i) 2 bytes ∙ ap (λ (k : ℕ). drop k bytes) place)

-- every element is a byte: below 256
abbrev pub AreBytes : List ℕ → Type 0
AreBytes bytes = (i : ℕ) → get_or bytes i 0 < 256

pub bytes_from : (bytes : List ℕ) (k : ℕ) → AreBytes bytes → AreBytes (drop k bytes)
bytes_from bytes k are i = rw (get_or-drop k bytes i 0) (are (k + i))

pub number_small : (bytes : List ℕ) → AreBytes bytes → number_in bytes < 65536
unfolding number_in
number_small bytes are = omega (arith, are 0, are 1)

-- the numbers in bytes give those bytes again
pub bytes_back : (n : ℕ) (bytes : List ℕ) → AreBytes bytes → 2 * n ≤ length bytes
    → bytes_of (numbers_in n bytes) ++ drop (2 * n) bytes ≡ bytes
unfolding bytes_of numbers_in number_in
bytes_back zero bytes are h = refl
bytes_back (suc n) [] are h = absurd (omega arith)
bytes_back (suc n) (a ∷ []) are h = absurd (omega arith)
bytes_back (suc n) (a ∷ (b ∷ rest)) are h =
    let lower : (a + 256 * b) % 256 ≡ a = omega (arith, are 0) in
    let upper : (a + 256 * b) / 256 ≡ b = omega (arith, are 0) in
    let place : 2 * suc n ≡ suc (suc (2 * n)) = omega arith in
    let others = bytes_back n rest (λ i. are (suc (suc i))) (omega arith) in
    rw place (λ i. lower i ∷ upper i ∷ others i)

-- ---- words

-- a word that fits two bytes is the word of its number
pub word_back : (w : ℤ) → SFits w16 w → word_of (number_of w) ≡ w
unfolding word_of number_of
word_back (pos n) f = rw (lt-ltb n 32768 (omega (arith, f)))
word_back (negsuc n) f =
    let high : 32768 ≤ 65536 - suc n = omega (arith, f) in
    let magnitude : 65536 - (65536 - suc n) ≡ suc n = omega (arith, f) in
    rw (le-ltb (65536 - suc n) 32768 high, magnitude)

-- a number that fits two bytes is the number of its word
pub number_back : (n : ℕ) → n < 65536 → number_of (word_of n) ≡ n
unfolding word_of number_of
number_back n h =
    by_test (ltb n 32768)
    (λ t. rw t)
    (λ t.
    let magnitude : 65536 - n ≡ suc (65535 - n) = omega arith in
    rw (t, magnitude) (omega arith))

pub words_back : (kind : ℕ) (ws : List ℤ) → all_in_range kind ws ≡ true → map word_of (map number_of ws) ≡ ws
unfolding all_in_range all_of
words_back kind [] h = refl
words_back kind (w ∷ ws) h =
    let (first, others) = both (in_range kind w) (all_of (in_range kind) ws) h in
    λ i. word_back w (in_range_fits kind w first) i ∷ words_back kind ws others i

pub numbers_back : (n : ℕ) (bytes : List ℕ) → AreBytes bytes → map number_of (map word_of (numbers_in n bytes)) ≡ numbers_in n bytes
unfolding numbers_in
numbers_back zero bytes are = refl
numbers_back (suc n) bytes are =
    let others = numbers_back n (drop 2 bytes) (bytes_from bytes 2 are) in
    λ i. number_back (number_in bytes) (number_small bytes are) i ∷ others i

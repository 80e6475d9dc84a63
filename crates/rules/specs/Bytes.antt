-- Document 01, "Stored form": "every number little-endian, two bytes, words in two's complement". A byte is a number below 256, and a
-- number that two bytes hold is below 65536.
use Rattle.std.specs.Prelude.{List, [], ◌∷◌, ℕ, zero, suc, ◌+◌, ◌*◌, ◌-◌, ◌/◌, ◌%◌, drop, get_or, ltb, ℤ, pos, negsuc, neg_ℤ}
use Rattle.rules.specs.Choice.{choose}

-- two bytes for each number, the lower byte first
unfoldable pub bytes_of : List ℕ → List ℕ
bytes_of [] = []
bytes_of (n ∷ ns) = n % 256 ∷ n / 256 ∷ bytes_of ns

-- the number in the first two bytes. A missing byte counts as 0
unfoldable pub number_in : List ℕ → ℕ
number_in bytes = get_or bytes 0 0 + 256 * get_or bytes 1 0

-- the first n numbers in the bytes
unfoldable pub numbers_in : ℕ → List ℕ → List ℕ
numbers_in zero bytes = []
numbers_in (suc n) bytes = number_in bytes ∷ numbers_in n (drop 2 bytes)

-- the number that stands for a word: 65536 is added to a word below 0. `negsuc n` is −(n + 1)
unfoldable pub number_of : ℤ → ℕ
number_of (pos n) = n
number_of (negsuc n) = 65536 - suc n

-- the word that a number stands for: 65536 is subtracted from a number of 32768 or more
unfoldable pub word_of : ℕ → ℤ
word_of n = choose (ltb n 32768) (pos n) (neg_ℤ (pos (65536 - n)))

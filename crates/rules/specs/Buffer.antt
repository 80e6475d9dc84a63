-- A list put into a lent buffer, for any element type. Document 01 says of a stored form "those after the form untouched"; the same holds
-- for every list that is put into a buffer.
use Rattle.std.specs.Prelude.{◌≡◌, List, ◌++◌, ℕ, ◌+◌, length, take, drop}

-- the buffer with x in its places from `at` on. The other places do not change. Wherever this is used, x fits the buffer
unfoldable pub overwritten : {A : Type 0} → List A → ℕ → List A → List A
overwritten buffer at x = take at buffer ++ (x ++ drop (at + length x) buffer)

-- the buffer with x at its front
unfoldable pub at_front : {A : Type 0} → List A → List A → List A
at_front x buffer = overwritten buffer 0 x

-- x was put into the buffer from `at` on, and `next` is the place after x
pub record Placed {A : Type 0} (before : List A) (at : ℕ) (x after : List A) (next : ℕ) : Type 0 where
  pub buffer : after ≡ overwritten before at x
  pub place : next ≡ at + length x

-- Laws of places in buffers: a place counts the bytes before it (`counted`, `counts`), also after a text was put (`text_counts`); and the
-- place after a line feed (`behind_feed`).
use mathlib.Core.Path.{◌≡◌, sym}
use mathlib.Core.List.{List}
use Prim.Native.Nat.{ℕ, ◌+◌, ◌≤◌, ◌<◌}
use native.Mathlib.Omega.{arith}
use borrow.Author.Tests.{ltb-true, ltb-false}
use lib.Dec.{ltb}
use lib.ListN.{length, take}
use lib.Seq.{length-take-le}
use Rattle.io.specs.Counts.{IsPrefixLen}
use Rattle.rules.specs.Choice.{choose}
use Rattle.rules.proofs.Choice.{choose_ind}
use Rattle.printing.specs.Output.{Puts}
use Rattle.printing.proofs.Putting.{puts_within}

pub counted : (n : ℕ) (xs : List ℕ) → n ≤ length xs → n ≡ length (take n xs)
counted n xs h = sym (length-take-le n xs h)

pub counts : (n : ℕ) (xs : List ℕ) → n ≤ length xs → IsPrefixLen n xs
counts n xs h = (h, counted n xs h)

-- a place within a buffer that is as long as before
pub record Within (at : ℕ) (before after : List ℕ) : Type 0 where
  pub within : at ≤ length after
  pub same_size : length after ≡ length before

pub text_counts : {before after x : List ℕ} {at next : ℕ} → at ≤ length before → Puts before at x after next → IsPrefixLen next after
text_counts {after = after} {next = next} h puts = counts next after (puts_within h puts)

-- r lies after `at`, and within n
pub record Behind (at n r : ℕ) : Type 0 where
  pub after : at < r
  pub within : r ≤ n

-- the next line begins after the place where this one began, and within the bytes
pub behind_feed : (at end n r : ℕ) → at ≤ end → end ≤ n → at < n → r ≡ choose (ltb end n) (end + 1) end → Behind at n r
behind_feed at end n r from to some e =
    rw e
    (choose_ind (Behind at n) (ltb end n) (end + 1) end
    (λ t. let feed = ltb-true end n t in record { after = omega arith; within = omega arith })
    (λ t. let none = ltb-false end n t in record { after = omega arith; within = omega arith }))

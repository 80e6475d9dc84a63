-- Laws of the range of a kind's words.
use mathlib.Core.Path.{◌≡◌}
use mathlib.Core.Bool.{true, false, false≢true}
use Prim.Native.Nat.{ℕ, ◌≤◌}
use native.Mathlib.Omega.{arith}
use lib.Dec.{leb, eqb}
use lib.IntN.{ℤ, pos, negsuc, nat_abs, neg_ℤ}
use lib.Signed.{le_z}
use mir.Syntax.{w16}
use mir.Val.{SFits}
use borrow.Author.Tests.{leb-true}
use Rattle.rules.specs.Kind.{word_most, word_least, in_range}
use Rattle.rules.proofs.Booleans.{both, by_test}

pub least_of_others : (kind : ℕ) → eqb kind 1 ≡ false → word_least kind ≡ neg_ℤ (pos word_most)
unfolding word_least
least_of_others kind t = rw t (by_test (eqb kind 2) (λ u. rw u) (λ u. rw u))

pub least_of_duplicates : (kind : ℕ) → eqb kind 1 ≡ true → word_least kind ≡ pos 0
unfolding word_least
least_of_duplicates kind t = rw t

-- a word in range is at most 20000 away from 0
pub in_range_few : (kind : ℕ) (w : ℤ) → in_range kind w ≡ true → nat_abs w ≤ word_most
unfolding in_range
in_range_few kind (pos n) h = leb-true n word_most (both (le_z (word_least kind) (pos n)) (leb n word_most) h).1
in_range_few kind (negsuc n) h =
    by_test (eqb kind 1)
    (λ t. absurd (false≢true (rw (least_of_duplicates kind t) at h)))
    (λ t. omega (arith, leb-true n 19999 (both (leb n 19999) true (rw (least_of_others kind t) at h)).0))

-- so a word in range fits two bytes
pub in_range_fits : (kind : ℕ) (w : ℤ) → in_range kind w ≡ true → SFits w16 w
in_range_fits kind (pos n) h = omega (arith, in_range_few kind (pos n) h)
in_range_fits kind (negsuc n) h = omega (arith, in_range_few kind (negsuc n) h)

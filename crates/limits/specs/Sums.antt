-- What the structs of `limits` say in the paper's terms, and what its functions require and give.
use Rattle.std.specs.Prelude.{◌≡◌, List, ℕ, ◌+◌, ◌*◌, ◌-◌, ◌≤◌, ◌<◌, ◌^◌, length, ℤ, pos, nat_abs, ◌*ℤ◌}
use Rattle.rules.specs.Sizes.{base_most}
use Rattle.rules.specs.Limits as rules
use Rattle.limits.specs.declared.Sums.{Sums}
use Rattle.limits.specs.declared.bounded.Limits.{Limits}
use Rattle.limits.specs.declared.BeyondLimits.{BeyondLimits}
use Rattle.limits.specs.declared.Side.{Side}
use Rattle.limits.specs.declared.Squares.{Squares}
use Rattle.limits.specs.Bounded.{Bounded}

-- n, T and Q
abbrev pub sums_say : Sums → rules.Sums
sums_say s = record { n = s.n; t = s.t; q = pos s.q }

-- a chart kind and the sums
abbrev pub limits_say : Limits → rules.Limits
limits_say l = record { kind = l.kind; sums = sums_say l.sums }

-- one more word can be added to the sums
pub record CanAdd (s : Sums) : Type 0 where
  pub room : s.n < base_most
  pub bounded : Bounded s

-- words that can be taken away from sums, whether or not these are the sums of words: n is at least their number, Q is at least the sum of
-- their squares, and T stays within 64 bits
pub record Removable (ws : List ℤ) (s : Sums) : Type 0 where
  pub count : length ws ≤ s.n
  pub squares : rules.sum_by rules.square_of ws ≤ s.q
  pub sum : nat_abs s.t + rules.sum_by nat_abs ws < 2 ^ 63

-- s are the sums of the words
pub record AreSums (ws : List ℤ) (s : Sums) : Type 0 where
  pub same : sums_say s ≡ rules.sums_of ws
  pub bounded : Bounded s

-- l are the limits that the words give
pub record AreLimits (kind : ℕ) (ws : List ℤ) (l : Limits) : Type 0 where
  pub same : limits_say l ≡ rules.limits_of kind ws
  pub bounded : Bounded l.sums

-- b says whether a word is beyond the upper limit at the multiple m, and whether it is beyond the lower one
pub record IsBeyond (m : ℕ) (limits : rules.Limits) (w : ℤ) (b : BeyondLimits) : Type 0 where
  pub upper : b.upper ≡ rules.beyond_upper m limits w
  pub lower : b.lower ≡ rules.beyond_lower m limits w

-- the same for the warning limits
pub record IsBeyondWarning (limits : rules.Limits) (w : ℤ) (b : BeyondLimits) : Type 0 where
  pub upper : b.upper ≡ rules.beyond_upper_warning limits w
  pub lower : b.lower ≡ rules.beyond_lower_warning limits w

-- r says whether a word is strictly above the mean, and whether it is strictly below it
pub record IsSide (s : rules.Sums) (w : ℤ) (r : Side) : Type 0 where
  pub above : r.above ≡ rules.above_mean s w
  pub below : r.below ≡ rules.below_mean s w

-- the two sides of the comparison of d / n with m·S: d²·(n − 1) and m²·n·V
pub record AreSquares (m : ℕ) (s : rules.Sums) (d : ℤ) (r : Squares) : Type 0 where
  pub deviation : pos r.deviation ≡ d *ℤ d *ℤ pos (s.n - 1)
  pub limit : pos r.limit ≡ pos (m * m * s.n) *ℤ rules.v_of s

-- the two sides of that comparison fit 64 bits. For a d below 2^29, d² times 32 is below 2^64
pub record Comparable (m : ℕ) (s : Sums) (d : ℤ) : Type 0 where
  pub bounded : Bounded s
  pub limit : m * m * (s.n * nat_abs (rules.v_of (sums_say s))) < 2 ^ 64
  pub deviation : nat_abs d < 2 ^ 29

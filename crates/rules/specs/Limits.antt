-- Document 01, "Base, limits, rejection": the sums of some words, and the comparison of a word with the limits that they give. A limit is
-- the mean plus or minus a multiple m of S, for any m. S is a square root. So a word is compared with a limit "by squares of whole
-- numbers", and by the sign of its deviation from the mean.
use Rattle.std.specs.Prelude.{Bool, ◌&&◌, ◌||◌, List, [], ◌∷◌, map, ℕ, ◌+◌, ◌*◌, ◌-◌, length, ℤ, pos, nat_abs, ◌+ℤ◌, ◌-ℤ◌, ◌*ℤ◌}
use Rattle.std.specs.Int.Signed.{lt_z}
use Rattle.rules.specs.Kind.{has_lower}

-- "For n words let T be their sum, Q the sum of their squares"
unfoldable pub sum_of : List ℤ → ℤ
sum_of [] = pos 0
sum_of (w ∷ ws) = w +ℤ sum_of ws

unfoldable pub sum_of_squares : List ℤ → ℤ
sum_of_squares ws = sum_of (map (λ (w : ℤ). w *ℤ w) ws)

-- n, T and Q
pub record Sums : Type 0 where
  pub n : ℕ
  pub t : ℤ
  pub q : ℤ

unfoldable pub sums_of : List ℤ → Sums
sums_of ws = record { n = length ws; t = sum_of ws; q = sum_of_squares ws }

-- "V = nQ − T²"
unfoldable pub v_of : Sums → ℤ
v_of s = pos s.n *ℤ s.q -ℤ s.t *ℤ s.t

-- n times the deviation of w from the mean T/n: n·w − T
unfoldable pub scaled_deviation : Sums → ℤ → ℤ
scaled_deviation s w = pos s.n *ℤ w -ℤ s.t

-- "S² = V / (n(n − 1))": a deviation of d / n, up or down, is more than m·S if (d / n)² > m²·S², that is if d²·(n − 1) > m²·n·V. Without
-- words, or with one word, there is no S, and no deviation exceeds
unfoldable pub exceeds : ℕ → Sums → ℤ → Bool
exceeds m s d = lt_z (pos (m * m * s.n) *ℤ v_of s) (d *ℤ d *ℤ pos (s.n - 1))

-- a deviation of d / n, up or down, is less than m·S. A deviation of exactly m·S neither exceeds nor is within. Without words, or with one
-- word, no deviation is within
unfoldable pub within : ℕ → Sums → ℤ → Bool
within m s d = lt_z (d *ℤ d *ℤ pos (s.n - 1)) (pos (m * m * s.n) *ℤ v_of s)

-- `above_mean`: w is strictly above the mean. `below_mean`: w is strictly below it
unfoldable pub above_mean : Sums → ℤ → Bool
above_mean s w = lt_z (pos 0) (scaled_deviation s w)

unfoldable pub below_mean : Sums → ℤ → Bool
below_mean s w = lt_z (scaled_deviation s w) (pos 0)

-- "|word − mean| < S", on both sides of the mean, for every kind
unfoldable pub near_mean : Sums → ℤ → Bool
near_mean s w = within 1 s (scaled_deviation s w)

-- `above`: w is above the mean + m·S. `below`: w is below the mean − m·S. "A word is beyond a limit if strictly outside it."
unfoldable pub above : ℕ → Sums → ℤ → Bool
above m s w = above_mean s w && exceeds m s (scaled_deviation s w)

unfoldable pub below : ℕ → Sums → ℤ → Bool
below m s w = below_mean s w && exceeds m s (scaled_deviation s w)

-- what a word is judged by: a chart kind, and the sums of the words that the limits are worked out from
pub record Limits : Type 0 where
  pub kind : ℕ
  pub sums : Sums

unfoldable pub limits_of : ℕ → List ℤ → Limits
limits_of kind words = record { kind = kind; sums = sums_of words }

-- `beyond_upper`: w is beyond the upper limit at the multiple m. `beyond_lower`: w is beyond the lower limit, which kind 1 does not have.
-- `beyond`: w is beyond one of them. The "lower control line" of kind 1 is a line only. It judges nothing, because no kind 1 word lies
-- below 0
unfoldable pub beyond_upper : ℕ → Limits → ℤ → Bool
beyond_upper m limits w = above m limits.sums w

unfoldable pub beyond_lower : ℕ → Limits → ℤ → Bool
beyond_lower m limits w = has_lower limits.kind && below m limits.sums w

unfoldable pub beyond : ℕ → Limits → ℤ → Bool
beyond m limits w = beyond_upper m limits w || beyond_lower m limits w

-- "Control limits are the mean ± 3S, warning limits the mean ± 2S."
abbrev pub control_multiple : ℕ
control_multiple = 3

abbrev pub warning_multiple : ℕ
warning_multiple = 2

unfoldable pub beyond_control : Limits → ℤ → Bool
beyond_control limits w = beyond control_multiple limits w

unfoldable pub beyond_warning : Limits → ℤ → Bool
beyond_warning limits w = beyond warning_multiple limits w

-- beyond one of the four limits
unfoldable pub beyond_upper_control : Limits → ℤ → Bool
beyond_upper_control limits w = beyond_upper control_multiple limits w

unfoldable pub beyond_lower_control : Limits → ℤ → Bool
beyond_lower_control limits w = beyond_lower control_multiple limits w

unfoldable pub beyond_upper_warning : Limits → ℤ → Bool
beyond_upper_warning limits w = beyond_upper warning_multiple limits w

unfoldable pub beyond_lower_warning : Limits → ℤ → Bool
beyond_lower_warning limits w = beyond_lower warning_multiple limits w

-- ---- terms of the laws of limits and of the functions that form sums

-- the sums after one more word
abbrev pub with_word : Sums → ℤ → Sums
with_word s w = record { n = s.n + 1; t = s.t +ℤ w; q = s.q +ℤ w *ℤ w }

-- the sum of f over the words
unfoldable pub sum_by : (ℤ → ℕ) → List ℤ → ℕ
sum_by f [] = 0
sum_by f (w ∷ ws) = f w + sum_by f ws

-- the square of an integer
abbrev pub square_of : ℤ → ℕ
square_of z = nat_abs z * nat_abs z

-- the sum of the squares of n·w − T
abbrev pub deviation_squares : Sums → List ℤ → ℕ
deviation_squares s ws = sum_by (λ w. square_of (scaled_deviation s w)) ws

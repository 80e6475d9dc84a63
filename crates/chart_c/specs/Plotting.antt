-- Lines, a word against them, and the check of a stored form. These calls change no chart. All of the lent bytes are the form.
use Rattle.std.specs.Prelude.{◌≡◌, Bool, ◌&&◌, List, [], ◌∷◌, ℕ, length, leb, ℤ, pos, neg_ℤ, Float}
use Rattle.std.specs.Int.Signed.{le_z}
use Rattle.rules.specs.Outcome.{Outcome, given, refused, and_then}
use Rattle.rules.specs.Choice.{require}
use Rattle.rules.specs.Buffer.{at_front}
use Rattle.rules.specs.State.{State, limits_for}
use Rattle.rules.specs.Lists.{bytes_start}
use Rattle.rules.specs.ChartLines.{Lines, duplicate, two_sided, lines_of, BeyondEach, beyond_each}
use Rattle.chart_c.specs.Lent.{answered_number, lent_after, flag}

-- the chart that the bytes hold: 13, 14
unfoldable pub chart_in : List ℕ → Outcome State
chart_in bytes = bytes_start bytes

-- ---- lines: 13, 14, 15

-- "three or five doubles", in the order of the lines in `rules`
unfoldable pub doubles_of : Lines → List Float
doubles_of (duplicate mean upper_warning upper_control) = mean ∷ upper_warning ∷ upper_control ∷ []
doubles_of (two_sided mean lower_warning upper_warning lower_control upper_control) =
    mean ∷ lower_warning ∷ upper_warning ∷ lower_control ∷ upper_control ∷ []

-- a buffer too short for the doubles is refused with 15
unfoldable pub doubles_into : List Float → List Float → Outcome (List Float)
doubles_into buffer doubles = require (leb (length doubles) (length buffer)) (refused 15) (given doubles)

unfoldable pub drawn : List ℕ → List Float → Outcome (List Float)
drawn bytes buffer = and_then (chart_in bytes) (λ (s : State). doubles_into buffer (doubles_of (lines_of (limits_for s))))

-- the doubles go to the front of the buffer, and their number into `count`
pub record Draws (o : Outcome (List Float)) (before after : List Float) (count count' number : ℕ) : Type 0 where
  pub answered : number ≡ answered_number o
  pub buffer : after ≡ lent_after (λ (doubles : List Float). at_front doubles before) before o
  pub of_count : count' ≡ lent_after length count o

-- ---- a word against the lines: 13, 14, 7, 15

-- "A word is a signed sixteen-bit whole number"
unfoldable pub is_word : ℤ → Bool
is_word z = le_z (neg_ℤ (pos 32768)) z && le_z z (pos 32767)

unfoldable pub flags_of : BeyondEach → List ℕ
flags_of b = flag b.lower_warning ∷ flag b.upper_warning ∷ flag b.lower_control ∷ flag b.upper_control ∷ []

-- a buffer of fewer than four bytes is refused with 15
unfoldable pub beyond_into : List ℕ → BeyondEach → Outcome BeyondEach
beyond_into buffer b = require (leb 4 (length buffer)) (refused 15) (given b)

-- a number that is no word is refused with 7, a buffer of fewer than four bytes with 15
unfoldable pub compared_into : List ℕ → ℤ → State → Outcome BeyondEach
compared_into buffer w s =
    require (is_word w) (refused 7)
    (require (leb 4 (length buffer)) (refused 15)
    (given (beyond_each (limits_for s) w)))

unfoldable pub compared : List ℕ → ℤ → List ℕ → Outcome BeyondEach
compared bytes w buffer = and_then (chart_in bytes) (compared_into buffer w)

pub record Compares (o : Outcome BeyondEach) (before after : List ℕ) (number : ℕ) : Type 0 where
  pub answered : number ≡ answered_number o
  pub buffer : after ≡ lent_after (λ (b : BeyondEach). at_front (flags_of b) before) before o

-- ---- the check of a stored form: 13, 14

pub record Checks (bytes : List ℕ) (number : ℕ) : Type 0 where
  pub answered : number ≡ answered_number (chart_in bytes)

-- What the values of `lines` say in the paper's terms, and what its functions give.
use Rattle.std.specs.Prelude.{◌≡◌, ℕ, ◌*◌, ◌^◌, ◌≤◌, Bool, ℤ, pos, ◌+ℤ◌, ◌-ℤ◌, ◌*ℤ◌, nat_lt, unsigned_abs, Float, Result, Ok, Err}
use Rattle.std.specs.Float.Ieee.{lt, of_int}
use Rattle.std.specs.Float.{binary64}
use Rattle.rules.specs.Outcome.{Outcome, given, refused}
use Rattle.rules.specs.Choice.{choose, require}
use Rattle.rules.specs.Kind.{word_most}
use Rattle.rules.specs.Limits as limits
use Rattle.rules.specs.Limits.{control_multiple, warning_multiple}
use Rattle.rules.specs.State.{limits_for}
use Rattle.rules.specs.Double.{double_of, parts_in}
use Rattle.rules.specs.Sizes.{line_parts}
use Rattle.rules.specs.Lines.{quotient_down, quotient_up, upper_line, lower_line, mean_line}
use Rattle.rules.specs.ChartLines.{lines_of, beyond_each, beyond_by}
use Rattle.rules.specs.ChartLines as rules
use Rattle.refusals.specs.Refusal.{refusal_number}
use Rattle.refusals.specs.declared.Refusal.{Refusal}
use Rattle.limits.specs.declared.Sums.{Sums}
use Rattle.limits.specs.Bounded.{Bounded}
use Rattle.chart.specs.declared.Chart.{Chart}
use Rattle.chart.specs.Chart.{state_of}
use Rattle.chart.specs.Soundness.{sound_chart}
use Rattle.lines.specs.declared.Lines.{Lines}
use Rattle.lines.specs.declared.Lines.TheVariants as lines
use Rattle.lines.specs.declared.BeyondEach.{BeyondEach}

-- ---- what the cases say

-- the three doubles of a kind 1 chart, or the five of another chart
unfoldable pub lines_say : Lines → rules.Lines
lines_say (lines.Duplicate mean upper_warning upper_control) = rules.duplicate mean upper_warning upper_control
lines_say (lines.TwoSided l) = rules.two_sided l.mean l.lower_warning l.upper_warning l.lower_control l.upper_control

-- what asking for lines answers, for refusals of any type that has numbers
abbrev pub lines_answer_says_by : {R : Type 0} → (R → ℕ) → Result Lines R → Outcome rules.Lines
lines_answer_says_by number_of (Ok l) = given (lines_say l)
lines_answer_says_by number_of (Err r) = refused (number_of r)

unfoldable pub lines_answer_says : Result Lines Refusal → Outcome rules.Lines
lines_answer_says r = lines_answer_says_by refusal_number r

unfoldable pub beyond_says : BeyondEach → rules.BeyondEach
beyond_says b =
    record {
      lower_warning = b.lower_warning;
      upper_warning = b.upper_warning;
      lower_control = b.lower_control;
      upper_control = b.upper_control;
    }

-- whether the word is beyond each limit, or the number of the refusal
unfoldable pub against_says : Result BeyondEach Refusal → Outcome rules.BeyondEach
against_says (Ok b) = given (beyond_says b)
against_says (Err r) = refused (refusal_number r)

-- ---- what the calls answer: "lines 14"

unfoldable pub answer_to_lines : Chart → Outcome rules.Lines
answer_to_lines c = require (sound_chart c) (refused 14) (given (lines_of (limits_for (state_of c))))

-- whether a word is beyond each line, by the exact limits
unfoldable pub answer_to_against : Chart → ℤ → Outcome rules.BeyondEach
answer_to_against c w = require (sound_chart c) (refused 14) (given (beyond_each (limits_for (state_of c)) w))

-- ---- a word against any doubles, as a comparison of doubles. If the double denotes k / 256, it compares 256·w with k (`proofs/Comparing`)

abbrev pub float_above : Float → ℤ → Bool
float_above x w = lt x (of_int binary64 w)

abbrev pub float_below : Float → ℤ → Bool
float_below x w = lt (of_int binary64 w) x

unfoldable pub float_beyond : rules.Lines → ℤ → rules.BeyondEach
float_beyond lines w = beyond_by float_above float_below lines w

-- ---- the whole number k of 256ths that a line's double denotes

-- k, if it is below 2 ^ 63 in size, so that the program's numbers hold it. Otherwise 0
unfoldable pub parts_held : Float → ℤ
parts_held x = choose (nat_lt (unsigned_abs (parts_in x)) (2 ^ 63)) (parts_in x) (pos 0)

-- the lines that sums give, at most as far from the mean as the control limits, have whole numbers k of at most 2 ^ 34 in size
pub record AreSmallLines (s : limits.Sums) : Type 0 where
  pub of_mean : unsigned_abs (mean_line s) ≤ 2 ^ 34
  pub of_upper : (m : ℕ) → m ≤ control_multiple → unsigned_abs (upper_line m s) ≤ 2 ^ 34
  pub of_lower : (m : ℕ) → m ≤ control_multiple → unsigned_abs (lower_line m s) ≤ 2 ^ 34

-- x is the double of k. k is small, so `parts_held` gives it back
pub record IsHeldLine (k : ℤ) (x : Float) : Type 0 where
  pub double : x ≡ double_of k
  pub small : unsigned_abs k ≤ 2 ^ 34
  pub held : parts_held x ≡ k

-- `IsHeldLine` for all lines that these sums give: kind 1 has three, the other kinds five
pub record AreHeldDuplicate (s : limits.Sums) (mean upper_warning upper_control : Float) : Type 0 where
  pub of_mean : IsHeldLine (mean_line s) mean
  pub of_upper_warning : IsHeldLine (upper_line warning_multiple s) upper_warning
  pub of_upper_control : IsHeldLine (upper_line control_multiple s) upper_control

pub record AreHeldTwoSided (s : limits.Sums) (mean lower_warning upper_warning lower_control upper_control : Float) : Type 0 where
  pub of_mean : IsHeldLine (mean_line s) mean
  pub of_lower_warning : IsHeldLine (lower_line warning_multiple s) lower_warning
  pub of_upper_warning : IsHeldLine (upper_line warning_multiple s) upper_warning
  pub of_lower_control : IsHeldLine (lower_line control_multiple s) lower_control
  pub of_upper_control : IsHeldLine (upper_line control_multiple s) upper_control

abbrev pub AreHeldLines : limits.Sums → rules.Lines → Type 0
AreHeldLines s (rules.duplicate mean upper_warning upper_control) = AreHeldDuplicate s mean upper_warning upper_control
AreHeldLines s (rules.two_sided mean lower_warning upper_warning lower_control upper_control) =
    AreHeldTwoSided s mean lower_warning upper_warning lower_control upper_control

-- ---- a line by its deviation d from the mean, in 256ths of an n-th

-- the greatest k for which n·k is at most 256·T + d, and the least k for which n·k is at least 256·T − d. If d is the greatest whole
-- number for which d / n is at most (256·m)·S, these are the lines for the multiple m (`proofs/LineParts`)
unfoldable pub upper_line_by : ℕ → limits.Sums → ℤ
upper_line_by d s = quotient_down (pos line_parts *ℤ s.t +ℤ pos d) s.n

unfoldable pub lower_line_by : ℕ → limits.Sums → ℤ
lower_line_by d s = quotient_up (pos line_parts *ℤ s.t -ℤ pos d) s.n

-- ---- what the internal functions require and give

-- the sums of two or more words. The sum of squares is at most that of words in range, so (256·3)²·n·V fits 64 bits
pub record HasLines (s : Sums) : Type 0 where
  pub bounded : Bounded s
  pub two : 2 ≤ s.n
  pub squares : s.q ≤ word_most * word_most * s.n

-- r is k, and small enough that a double holds k / 256
pub record IsParts (k r : ℤ) : Type 0 where
  pub same : r ≡ k
  pub small : unsigned_abs r ≤ 2 ^ 34

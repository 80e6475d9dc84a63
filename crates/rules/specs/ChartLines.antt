-- Document 01, "Lines for the plotter": the lines of a chart as doubles, and the comparison of a word with them.
use Rattle.std.specs.Prelude.{◌≡◌, Bool, true, false, ℕ, ℤ, pos, ◌*ℤ◌, Float}
use Rattle.std.specs.Int.Signed.{lt_z}
use Rattle.std.specs.Float.{binary64}
use Rattle.std.specs.Float.Ieee.{to_bits}
use Rattle.rules.specs.Choice.{choose}
use Rattle.rules.specs.Outcome.{Outcome, given, refused}
use Rattle.rules.specs.Sizes.{line_parts}
use Rattle.rules.specs.Kind.{has_lower}
use Rattle.rules.specs.Limits.{Sums, Limits, above, below, control_multiple, warning_multiple}
use Rattle.rules.specs.Limits.{beyond_upper_control, beyond_lower_control, beyond_upper_warning, beyond_lower_warning}
use Rattle.rules.specs.Double.{Denotes, double_of, bits_of, parts_in}
use Rattle.rules.specs.Lines.{IsUpperLine, IsLowerLine, IsMeanLine, upper_line, lower_line, mean_line}

-- "mean and two upper limits for kind 1 (the lower line, always 0.0, is not carried), a struct of five doubles otherwise"
pub data Lines : Type 0 where
  duplicate : (mean upper_warning upper_control : Float) → Lines
  two_sided : (mean lower_warning upper_warning lower_control upper_control : Float) → Lines

-- the lines for these limits. Refusal 14 is about the program's chart: `lines/specs/Lines` defines it
unfoldable pub lines_of : Limits → Lines
lines_of limits =
    let s = limits.sums in
    let mean = double_of (mean_line s) in
    let upper_warning = double_of (upper_line warning_multiple s) in
    let upper_control = double_of (upper_line control_multiple s) in
    let lower_warning = double_of (lower_line warning_multiple s) in
    let lower_control = double_of (lower_line control_multiple s) in
    choose (has_lower limits.kind)
    (two_sided mean lower_warning upper_warning lower_control upper_control)
    (duplicate mean upper_warning upper_control)

-- ---- a word compared with the limits and with the lines

-- whether a word is beyond each of the limits
pub record BeyondEach : Type 0 where
  pub lower_warning : Bool
  pub upper_warning : Bool
  pub lower_control : Bool
  pub upper_control : Bool

-- judged by the exact limits
unfoldable pub beyond_each : Limits → ℤ → BeyondEach
beyond_each limits w =
    record {
      lower_warning = beyond_lower_warning limits w;
      upper_warning = beyond_upper_warning limits w;
      lower_control = beyond_lower_control limits w;
      upper_control = beyond_upper_control limits w;
    }

-- "a word w against the double as 256w against k". `above_line`: w is above the line x. `below_line`: w is below it
unfoldable pub above_line : Float → ℤ → Bool
above_line x w = lt_z (parts_in x) (pos line_parts *ℤ w)

unfoldable pub below_line : Float → ℤ → Bool
below_line x w = lt_z (pos line_parts *ℤ w) (parts_in x)

-- a word compared with the line of each limit. `above` and `below` compare a word with one line. "The mean line is no limit, and no word is
-- judged by its double." Kind 1 has no lower limits
unfoldable pub beyond_by : (above below : Float → ℤ → Bool) → Lines → ℤ → BeyondEach
beyond_by above below (duplicate mean upper_warning upper_control) w =
    record {
      lower_warning = false;
      upper_warning = above upper_warning w;
      lower_control = false;
      upper_control = above upper_control w;
    }
beyond_by above below (two_sided mean lower_warning upper_warning lower_control upper_control) w =
    record {
      lower_warning = below lower_warning w;
      upper_warning = above upper_warning w;
      lower_control = below lower_control w;
      upper_control = above upper_control w;
    }

-- judged by the lines
unfoldable pub beyond_lines : Lines → ℤ → BeyondEach
beyond_lines lines w = beyond_by above_line below_line lines w

-- ---- what demand 3 says about the double x of a line. k is the whole number `parts_in x`

-- x denotes k / 256, it is the double `double_of k`, and its bits are `bits_of k`
pub record IsLineDouble (x : Float) : Type 0 where
  pub denotes : Denotes x (parts_in x)
  pub same : x ≡ double_of (parts_in x)
  pub bits : to_bits binary64 x ≡ bits_of (parts_in x)

-- a limit: k is the limit's line, and any word w lies beyond the double exactly if it lies beyond the exact limit
pub record IsLimitDouble (Line : ℤ → Type 0) (beyond_line : Float → ℤ → Bool) (beyond_limit : ℤ → Bool) (x : Float) : Type 0 where
  pub double : IsLineDouble x
  pub line : Line (parts_in x)
  pub judges : (w : ℤ) → beyond_line x w ≡ beyond_limit w

-- `Lines.IsGreatestNot` and `IsLeastNot` say that k is less than 1 away from 256 times the exact limit
abbrev pub IsUpperDouble : ℕ → Sums → Float → Type 0
IsUpperDouble m s x = IsLimitDouble (IsUpperLine m s) above_line (above m s) x

abbrev pub IsLowerDouble : ℕ → Sums → Float → Type 0
IsLowerDouble m s x = IsLimitDouble (IsLowerLine m s) below_line (below m s) x

-- the mean line. No word is judged by it
pub record IsMeanDouble (s : Sums) (x : Float) : Type 0 where
  pub double : IsLineDouble x
  pub line : IsMeanLine s (parts_in x)

-- all lines of a chart with these limits: kind 1 has three, the other kinds five
pub record AreDuplicateDoubles (limits : Limits) (mean upper_warning upper_control : Float) : Type 0 where
  pub kind : has_lower limits.kind ≡ false
  pub of_mean : IsMeanDouble limits.sums mean
  pub of_upper_warning : IsUpperDouble warning_multiple limits.sums upper_warning
  pub of_upper_control : IsUpperDouble control_multiple limits.sums upper_control

pub record AreTwoSidedDoubles (limits : Limits) (mean lower_warning upper_warning lower_control upper_control : Float) : Type 0 where
  pub kind : has_lower limits.kind ≡ true
  pub of_mean : IsMeanDouble limits.sums mean
  pub of_lower_warning : IsLowerDouble warning_multiple limits.sums lower_warning
  pub of_upper_warning : IsUpperDouble warning_multiple limits.sums upper_warning
  pub of_lower_control : IsLowerDouble control_multiple limits.sums lower_control
  pub of_upper_control : IsUpperDouble control_multiple limits.sums upper_control

abbrev pub AreLineDoubles : Limits → Lines → Type 0
AreLineDoubles limits (duplicate mean upper_warning upper_control) = AreDuplicateDoubles limits mean upper_warning upper_control
AreLineDoubles limits (two_sided mean lower_warning upper_warning lower_control upper_control) =
    AreTwoSidedDoubles limits mean lower_warning upper_warning lower_control upper_control

-- the answer is lines and no refusal, and `AreLineDoubles` holds for them
abbrev pub AnswersLineDoubles : Limits → Outcome Lines → Type 0
AnswersLineDoubles limits (given lines) = AreLineDoubles limits lines
AnswersLineDoubles limits (refused n) = ⊥

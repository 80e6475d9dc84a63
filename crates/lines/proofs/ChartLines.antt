-- The lines that limits give, and the lines of a chart. If the chart is sound, its lines can be worked out from the sums of its base
-- (`has_lines`). A word is beyond a line exactly if it is beyond the exact limit (`lines_compared`). The word can also be compared with the
-- limit itself (`limits_compared`). A chart that is not sound is refused.
use Rattle.std.proofs.Common.{◌≡◌, ℕ, ◌*◌, true, false, length, ℤ, nat_abs, ap, ◌∙◌, arith, to_z-of_z, w16, SFits, to_z, of_z}
use lib.Ieee.{Float}
use mathlib.Core.Path.{sym}
use mathlib.Core.Bool.{Bool}
use Rattle.rules.specs.Choice.{require}
use Rattle.rules.specs.Outcome.{given, refused}
use Rattle.rules.proofs.Outcome.{same_given, same_refused, given_not_refused, require_given}
use Rattle.rules.specs.Kind.{has_lower}
use Rattle.rules.specs.Limits as limits
use Rattle.rules.specs.Limits.{sums_of, limits_of, sum_of_squares, control_multiple, warning_multiple}
use Rattle.rules.specs.Limits.{beyond_upper_control, beyond_lower_control, beyond_upper_warning, beyond_lower_warning}
use Rattle.rules.specs.State.{limits_for}
use Rattle.rules.specs.Double.{double_of}
use Rattle.rules.specs.Sizes.{line_parts}
use Rattle.rules.specs.Lines.{greatest_deviation, upper_line, mean_line}
use Rattle.rules.specs.ChartLines as rules
use Rattle.rules.specs.ChartLines.{lines_of, beyond_each}
use Rattle.rules.proofs.Held.{word_small}
use Rattle.rules.proofs.Limits.{v_natural}
use Rattle.rules.proofs.Lines.{judged_by_lines, in_range_squares}
use Rattle.rules.proofs.Soundness.{sound_facts}
use Rattle.limits.specs.declared.bounded.Limits.{Limits}
use Rattle.limits.specs.declared.BeyondLimits.{BeyondLimits}
use Rattle.limits.specs.Sums.{sums_say, limits_say, IsBeyond}
use Rattle.chart.specs.declared.Chart.{Chart}
use Rattle.chart.specs.Chart.{state_of, LimitsFor}
use Rattle.chart.specs.Soundness.{sound_chart}
use Rattle.chart.proofs.SoundCharts.{sound_chart_facts}
use Rattle.lines.specs.declared.Lines.{Lines}
use Rattle.lines.specs.declared.BeyondEach.{BeyondEach}
use Rattle.lines.specs.declared.Lines.TheVariants.{Duplicate, TwoSided}
use Rattle.lines.specs.Lines.{lines_say, beyond_says, answer_to_lines, answer_to_against, float_beyond}
use Rattle.lines.specs.Lines.{upper_line_by, lower_line_by, HasLines}
use Rattle.lines.proofs.LineParts.{upper_by, lower_by}
use Rattle.lines.proofs.Comparing.{float_beyond_lem}

-- ---- the lines that limits give, line by line

-- the deviations for the two multiples, and the lines that every chart has
pub record UpperLines (l : Limits) (warning control : ℕ) (mean upper_warning upper_control : Float) : Type 0 where
  pub of_warning : warning ≡ greatest_deviation (line_parts * warning_multiple) (sums_say l.sums)
  pub of_control : control ≡ greatest_deviation (line_parts * control_multiple) (sums_say l.sums)
  pub of_mean : mean ≡ double_of (mean_line (sums_say l.sums))
  pub of_upper_warning : upper_warning ≡ double_of (upper_line_by warning (sums_say l.sums))
  pub of_upper_control : upper_control ≡ double_of (upper_line_by control (sums_say l.sums))

module _ {l : Limits} {warning control : ℕ} {mean upper_warning upper_control : Float}
    (u : UpperLines l warning control mean upper_warning upper_control) where
  upper_warning_lem : upper_warning ≡ double_of (upper_line warning_multiple (sums_say l.sums))
  upper_warning_lem = u.of_upper_warning ∙ ap double_of (upper_by warning_multiple warning (sums_say l.sums) u.of_warning)

  upper_control_lem : upper_control ≡ double_of (upper_line control_multiple (sums_say l.sums))
  upper_control_lem = u.of_upper_control ∙ ap double_of (upper_by control_multiple control (sums_say l.sums) u.of_control)

  pub duplicate_lines : has_lower l.kind ≡ false → lines_say (Duplicate mean upper_warning upper_control) ≡ lines_of (limits_say l)
  unfolding lines_say lines_of
  duplicate_lines t = rw t (λ i. rules.duplicate (u.of_mean i) (upper_warning_lem i) (upper_control_lem i))

  pub two_sided_lines : (lower_warning lower_control : Float) → lower_warning ≡ double_of (lower_line_by warning (sums_say l.sums))
      → lower_control ≡ double_of (lower_line_by control (sums_say l.sums)) → has_lower l.kind ≡ true
      → lines_say (TwoSided (record {
        mean = mean;
        lower_warning = lower_warning;
        upper_warning = upper_warning;
        lower_control = lower_control;
        upper_control = upper_control;
      })) ≡ lines_of (limits_say l)
  unfolding lines_say lines_of
  two_sided_lines lower_warning lower_control lw lc t =
      let lower-warning = lw ∙ ap double_of (lower_by warning_multiple warning (sums_say l.sums) u.of_warning) in
      let lower-control = lc ∙ ap double_of (lower_by control_multiple control (sums_say l.sums) u.of_control) in
      rw t (λ i. rules.two_sided (u.of_mean i) (lower-warning i) (upper_warning_lem i) (lower-control i) (upper_control_lem i))

-- ---- a word against limits that the program holds

pub limits_compared : {limits : limits.Limits} (l : Limits) (w : ℤ) → SFits w16 w → (warning control : BeyondLimits) → limits_say l ≡ limits
    → IsBeyond warning_multiple (limits_say l) (to_z w16 (of_z w16 w)) warning
    → IsBeyond control_multiple (limits_say l) (to_z w16 (of_z w16 w)) control
    → beyond_says (record {
      lower_warning = warning.lower;
      upper_warning = warning.upper;
      lower_control = control.lower;
      upper_control = control.upper;
    }) ≡ beyond_each limits w
unfolding beyond_says beyond_each beyond_upper_control beyond_lower_control beyond_upper_warning beyond_lower_warning
limits_compared l w fit warning control same at-warning at-control =
    (λ i. record {
      lower_warning = at-warning.lower i;
      upper_warning = at-warning.upper i;
      lower_control = at-control.lower i;
      upper_control = at-control.upper i;
    })
    ∙ (λ i. beyond_each (same i) (to_z-of_z fit i))

-- ---- a sound chart

module _ (c : Chart) (t : sound_chart c ≡ true) where
  -- lines can be worked out from the sums of its base
  pub has_lines : (l : Limits) → LimitsFor (state_of c) l → HasLines l.sums
  unfolding limits_for limits_of sums_of
  has_lines l are =
      let s = state_of c in
      let facts = sound_facts s (sound_chart_facts c t).state in
      let n : l.sums.n ≡ length s.base = ap (λ (x : limits.Limits). x.sums.n) are.same in
      let q : l.sums.q ≡ nat_abs (sum_of_squares s.base) = ap (λ (x : limits.Limits). nat_abs x.sums.q) are.same in
      record {
        bounded = l.bounded;
        two = omega (arith, facts.base_least_lem);
        squares = omega (arith, in_range_squares s.kind s.base facts.base_in_range);
      }

  pub lines_given : (lines : Lines) → lines_say lines ≡ lines_of (limits_for (state_of c)) → given (lines_say lines) ≡ answer_to_lines c
  unfolding answer_to_lines
  lines_given lines e = rw t (ap given e)

  -- a word is beyond the chart's lines exactly if it is beyond its limits
  judged_by_chart : (w : ℤ) → rules.beyond_lines (lines_of (limits_for (state_of c))) w ≡ beyond_each (limits_for (state_of c)) w
  unfolding limits_for limits_of sums_of
  judged_by_chart w =
      let s = state_of c in
      let facts = sound_facts s (sound_chart_facts c t).state in
      judged_by_lines (limits_for s) w (omega (arith, facts.base_least_lem)) (v_natural s.base)

  pub lines_compared : (w : ℤ) (lines : Lines) (b : BeyondEach) → SFits w16 w → lines_say lines ≡ lines_of (limits_for (state_of c))
      → beyond_says b ≡ float_beyond (lines_say lines) (to_z w16 (of_z w16 w)) → beyond_says b ≡ beyond_each (limits_for (state_of c)) w
  lines_compared w lines b fit same is =
      let limits = limits_for (state_of c) in
      let held : beyond_says b ≡ float_beyond (lines_say lines) w = rw (to_z-of_z fit) at is in
      let few = word_small fit in
      held ∙ ap (λ x. float_beyond x w) same ∙ float_beyond_lem w (omega arith) limits ∙ judged_by_chart w

  pub comparison_given : (w : ℤ) (b : BeyondEach) → beyond_says b ≡ beyond_each (limits_for (state_of c)) w
      → given (beyond_says b) ≡ answer_to_against c w
  unfolding answer_to_against
  comparison_given w b e = rw t (ap given e)

-- ---- a chart that is not sound

pub lines_declined : (c : Chart) → sound_chart c ≡ false → refused 14 ≡ answer_to_lines c
unfolding answer_to_lines
lines_declined c t = rw t

-- ---- a word against the lines that were asked for. The answer to asking says whether the chart is sound

refused_alike : {A B : Type 0} (t : Bool) (n : ℕ) (x : A) (y : B) → refused n ≡ require t (refused 14) (given x)
    → refused n ≡ require t (refused 14) (given y)
refused_alike true n x y e = given_not_refused (sym e)
refused_alike false n x y e = ap refused (same_refused e)

pub comparison_refused : (c : Chart) (w : ℤ) (n : ℕ) → refused n ≡ answer_to_lines c → refused n ≡ answer_to_against c w
unfolding answer_to_lines answer_to_against
comparison_refused c w n e = refused_alike (sound_chart c) n _ _ e

pub lines_compared_then : (c : Chart) (w : ℤ) (lines : Lines) (b : BeyondEach) → SFits w16 w → given (lines_say lines) ≡ answer_to_lines c
    → beyond_says b ≡ float_beyond (lines_say lines) (to_z w16 (of_z w16 w)) → given (beyond_says b) ≡ answer_to_against c w
unfolding answer_to_lines
lines_compared_then c w lines b fit e is =
    let asked = require_given (sound_chart c) 14 (given (lines_of (limits_for (state_of c)))) (lines_say lines) (sym e) in
    comparison_given c asked.holds w b (lines_compared c asked.holds w lines b fit (sym (same_given asked.gives)) is)

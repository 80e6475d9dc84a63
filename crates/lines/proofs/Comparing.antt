-- A word against lines as doubles. For the lines that limits give, to compare the doubles is to compare 256·w with k (`float_beyond_lem`).
use Rattle.std.proofs.Common.{◌≡◌, ◌^◌, ◌≤◌, Bool, false, ℤ, nat_abs, to_z-of_z, w16, SFits, to_z, of_z}
use lib.Ieee.{Float}
use Rattle.rules.specs.Kind.{has_lower}
use Rattle.rules.specs.Limits.{Limits, control_multiple, warning_multiple}
use Rattle.rules.specs.Double.{double_of}
use Rattle.rules.specs.Lines.{upper_line, lower_line}
use Rattle.rules.specs.ChartLines.{lines_of, above_line, below_line, beyond_by, beyond_lines}
use Rattle.rules.proofs.Choice.{choose_ind}
use Rattle.rules.proofs.Double.{above_is, below_is, double_denotes, parts_of_double}
use Rattle.lines.specs.declared.Lines.{Lines}
use Rattle.lines.specs.declared.TwoSidedLines.{TwoSidedLines}
use Rattle.lines.specs.declared.Lines.TheVariants.{Duplicate, TwoSided}
use Rattle.lines.specs.Lines.{lines_say, beyond_says, float_above, float_below, float_beyond}

-- ---- doubles that denote k / 256

module _ (w : ℤ) (few : nat_abs w ≤ 2 ^ 53) where
  float_above_lem : (k : ℤ) → float_above (double_of k) w ≡ above_line (double_of k) w
  unfolding above_line
  float_above_lem k = rw (parts_of_double k) (above_is (double_of k) k w few (double_denotes k))

  float_below_lem : (k : ℤ) → float_below (double_of k) w ≡ below_line (double_of k) w
  unfolding below_line
  float_below_lem k = rw (parts_of_double k) (below_is (double_of k) k w few (double_denotes k))

  pub float_beyond_lem : (limits : Limits) → float_beyond (lines_of limits) w ≡ beyond_lines (lines_of limits) w
  unfolding lines_of float_beyond beyond_lines beyond_by
  float_beyond_lem limits =
      let s = limits.sums in
      let upper_warning_lem = float_above_lem (upper_line warning_multiple s) in
      let upper_control_lem = float_above_lem (upper_line control_multiple s) in
      choose_ind (λ lines. float_beyond lines w ≡ beyond_lines lines w) (has_lower limits.kind) _ _
      (λ t i. record {
        lower_warning = float_below_lem (lower_line warning_multiple s) i;
        upper_warning = upper_warning_lem i;
        lower_control = float_below_lem (lower_line control_multiple s) i;
        upper_control = upper_control_lem i;
      })
      (λ t i. record { lower_warning = false; upper_warning = upper_warning_lem i; lower_control = false; upper_control = upper_control_lem i })

-- ---- any doubles: what the comparisons with a word, as the program holds it, give together

abbrev held_word : ℤ → ℤ
held_word w = to_z w16 (of_z w16 w)

module _ (lines : Lines) (w : ℤ) (fit : SFits w16 w) where
  pub against_duplicate : (mean upper_warning upper_control : Float) (a b : Bool) → lines ≡ Duplicate mean upper_warning upper_control
      → a ≡ float_above upper_warning (held_word w) → b ≡ float_above upper_control (held_word w)
      → beyond_says (record { lower_warning = false; upper_warning = a; lower_control = false; upper_control = b })
      ≡ float_beyond (lines_say lines) w
  unfolding beyond_says float_beyond beyond_by lines_say
  against_duplicate mean upper_warning upper_control a b e f g = rw (e, f, g, to_z-of_z fit)

  pub against_two_sided : (l : TwoSidedLines) (a b c d : Bool) → lines ≡ TwoSided l
      → a ≡ float_below l.lower_warning (held_word w) → b ≡ float_above l.upper_warning (held_word w)
      → c ≡ float_below l.lower_control (held_word w) → d ≡ float_above l.upper_control (held_word w)
      → beyond_says (record { lower_warning = a; upper_warning = b; lower_control = c; upper_control = d })
      ≡ float_beyond (lines_say lines) w
  unfolding beyond_says float_beyond beyond_by lines_say
  against_two_sided l a b c d e f g h k = rw (e, f, g, h, k, to_z-of_z fit)

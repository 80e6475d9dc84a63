-- The doubles of a sound chart's lines: k is at most 2 ^ 34 in size, and the program reads exactly this k off its double (`lines_held`).
use Rattle.std.proofs.Common.{◌≡◌, ℕ, ◌-◌, ◌*◌, ◌/◌, ◌^◌, ◌<◌, ◌≤◌, true, List, length, ℤ, pos, ◌+ℤ◌, ◌-ℤ◌, ◌*ℤ◌, nat_abs, refl, ◌∙◌, mul-le-mul, div-le_self, arith, lit≤}
use Rattle.rules.specs.Sizes.{line_parts, base_most}
use Rattle.rules.specs.Kind.{has_lower}
use Rattle.rules.specs.Building.{all_in_range}
use Rattle.rules.specs.SquareRoot.{square_root}
use Rattle.rules.specs.Limits as limits
use Rattle.rules.specs.Limits.{sum_of, sum_of_squares, sums_of, limits_of, control_multiple, warning_multiple}
use Rattle.rules.specs.State.{limits_for}
use Rattle.rules.specs.Double.{double_of}
use Rattle.rules.specs.Lines.{greatest_deviation, upper_line, lower_line, mean_line}
use Rattle.rules.specs.ChartLines.{lines_of}
use Rattle.rules.proofs.Choice.{choose_ind}
use Rattle.rules.proofs.Integers.{by_order}
use Rattle.rules.proofs.Limits.{squares_are}
use Rattle.rules.proofs.Lines.{in_range_squares}
use Rattle.rules.proofs.SquareRoot.{root_is}
use Rattle.rules.proofs.Soundness.{sound_facts}
use Rattle.rules.proofs.Double.{parts_of_double}
use Rattle.limits.specs.declared.Sums.{Sums}
use Rattle.limits.specs.declared.bounded.Limits.{Limits}
use Rattle.limits.specs.Bounded.{Bounded}
use Rattle.limits.specs.Sums.{sums_say}
use Rattle.limits.proofs.Spread.{v_is}
use Rattle.limits.proofs.Summing.{are_sums}
use Rattle.chart.specs.declared.Chart.{Chart}
use Rattle.chart.specs.Chart.{state_of, LimitsFor}
use Rattle.chart.specs.Soundness.{sound_chart}
use Rattle.chart.proofs.SoundCharts.{sound_chart_facts}
use Rattle.lines.specs.Lines.{HasLines, parts_held, IsHeldLine, AreSmallLines, AreHeldLines}
use Rattle.lines.proofs.Quotients.{down_small, up_small}
use Rattle.lines.proofs.Deviations.{product_fits, deviation_is}
use Rattle.lines.proofs.LineParts.{parts_small, plus_small, minus_small}
use Rattle.lines.proofs.PartsHeld.{held_whole}
use Rattle.lines.proofs.ChartLines.{has_lines}

-- ---- the size of the lines that sums give

-- the root of a number of 64 bits has 32 bits
root_small : (q : ℕ) → q < 2 ^ 64 → square_root q < 2 ^ 32
root_small q h =
    by_order (square_root q) (2 ^ 32)
    (λ g. absurd (omega (arith, mul-le-mul g g, (root_is q).at_most)))
    (λ g. g)

module _ (s : Sums) (has : HasLines s) where
  deviation_small : (m : ℕ) → m ≤ control_multiple → greatest_deviation (line_parts * m) (sums_say s) < 2 ^ 32
  deviation_small m few =
      let v = s.n * s.q - nat_abs s.t * nat_abs s.t in
      let e = v_is s has.bounded in
      let product = line_parts * m * (line_parts * m) * (s.n * v) in
      let fits : product / (s.n - 1) < 2 ^ 64 = omega (arith, product_fits s has v e m few, div-le_self product (s.n - 1)) in
      rw (← deviation_is m s v e) (root_small (product / (s.n - 1)) fits)

  mean_small : nat_abs (mean_line (sums_say s)) ≤ 2 ^ 34
  unfolding mean_line
  mean_small = let z = pos line_parts *ℤ s.t in omega (arith, down_small z s.n, parts_small s has.bounded)

  upper_small : (m : ℕ) → m ≤ control_multiple → nat_abs (upper_line m (sums_say s)) ≤ 2 ^ 34
  unfolding upper_line
  upper_small m few =
      let d = greatest_deviation (line_parts * m) (sums_say s) in
      let z = pos line_parts *ℤ s.t +ℤ pos d in
      omega (arith, down_small z s.n, plus_small s has.bounded d (deviation_small m few))

  lower_small : (m : ℕ) → m ≤ control_multiple → nat_abs (lower_line m (sums_say s)) ≤ 2 ^ 34
  unfolding lower_line
  lower_small m few =
      let d = greatest_deviation (line_parts * m) (sums_say s) in
      let z = pos line_parts *ℤ s.t -ℤ pos d in
      omega (arith, up_small z s.n, minus_small s has.bounded d (deviation_small m few))

  pub small_lines : AreSmallLines (sums_say s)
  small_lines = record { of_mean = mean_small; of_upper = upper_small; of_lower = lower_small }

-- ---- what is read off the double of a line

pub double_held : (k : ℤ) → nat_abs k < 2 ^ 63 → parts_held (double_of k) ≡ k
double_held k h = held_whole (double_of k) (rw (parts_of_double k) h) ∙ parts_of_double k

pub line_held : (k : ℤ) → nat_abs k ≤ 2 ^ 34 → IsHeldLine k (double_of k)
line_held k h = record { double = refl; small = h; held = double_held k (omega arith) }

-- .. of each line that limits give
pub held_lines : (l : limits.Limits) → AreSmallLines l.sums → AreHeldLines l.sums (lines_of l)
unfolding lines_of
held_lines l small =
    let s = l.sums in
    let mean = line_held (mean_line s) small.of_mean in
    let upper_warning_lem = line_held (upper_line warning_multiple s) (small.of_upper warning_multiple (lit≤ tt)) in
    let upper_control_lem = line_held (upper_line control_multiple s) (small.of_upper control_multiple (lit≤ tt)) in
    choose_ind (λ lines. AreHeldLines s lines) (has_lower l.kind) _ _
    (λ t. record {
      of_mean = mean;
      of_lower_warning = line_held (lower_line warning_multiple s) (small.of_lower warning_multiple (lit≤ tt));
      of_upper_warning = upper_warning_lem;
      of_lower_control = line_held (lower_line control_multiple s) (small.of_lower control_multiple (lit≤ tt));
      of_upper_control = upper_control_lem;
    })
    (λ t. record { of_mean = mean; of_upper_warning = upper_warning_lem; of_upper_control = upper_control_lem })

-- ---- the sums of a sound chart's base

abbrev base_sums : List ℤ → Sums
base_sums ws = record { n = length ws; t = sum_of ws; q = nat_abs (sum_of_squares ws) }

sums_same : (ws : List ℤ) → sums_say (base_sums ws) ≡ sums_of ws
unfolding sums_of
sums_same ws = rw squares_are

bounded_sums : (kind : ℕ) (ws : List ℤ) → length ws ≤ base_most → all_in_range kind ws ≡ true → Bounded (base_sums ws)
unfolding all_in_range
bounded_sums kind ws few range =
    (are_sums (base_sums ws) ws (sums_same ws) few (omega (arith, in_range_squares kind ws range))).bounded

module _ (c : Chart) (t : sound_chart c ≡ true) where
  base_bounded : Bounded (base_sums (state_of c).base)
  base_bounded =
      let s = state_of c in
      let facts = sound_facts s (sound_chart_facts c t).state in
      bounded_sums s.kind s.base facts.base_most_lem facts.base_in_range

  abbrev base_limits : Limits
  base_limits = record { kind = c.kind; sums = base_sums (state_of c).base; bounded = base_bounded }

  limits_are : LimitsFor (state_of c) base_limits
  unfolding limits_for limits_of state_of
  limits_are = record { same = λ i. record { kind = c.kind; sums = sums_same (state_of c).base i } }

  pub lines_small : AreSmallLines (limits_for (state_of c)).sums
  unfolding limits_for limits_of
  lines_small =
      let ws = (state_of c).base in
      rw (← sums_same ws) (small_lines (base_sums ws) (has_lines c t base_limits limits_are))

  pub lines_held : AreHeldLines (limits_for (state_of c)).sums (lines_of (limits_for (state_of c)))
  lines_held = held_lines (limits_for (state_of c)) lines_small

-- Lines as whole numbers of 256ths, as the program works them out. 256·T and d fit 64 bits, and so does each line that they give.
use Rattle.std.proofs.Common.{◌≡◌, ℕ, ◌*◌, ◌^◌, ◌<◌, ◌≤◌, ℤ, pos, ◌+ℤ◌, ◌-ℤ◌, ◌*ℤ◌, neg_ℤ, nat_abs, ap, ◌∙◌, arith, to_z-of_z, w64, to_z, of_z}
use mir.Facts.{to_z_pos}
use Rattle.rules.specs.Sizes.{line_parts}
use Rattle.rules.specs.Limits as limits
use Rattle.rules.specs.Lines.{quotient_down, quotient_up, greatest_deviation, upper_line, lower_line, mean_line}
use Rattle.rules.proofs.Integers.{magnitude_plus, magnitude_negated, magnitude_times}
use Rattle.rules.proofs.Held.{small_fits, Held, held}
use Rattle.limits.specs.declared.Sums.{Sums}
use Rattle.limits.specs.Bounded.{Bounded}
use Rattle.limits.specs.Sums.{sums_say}
use Rattle.limits.proofs.Spread.{sum_small, sum_fits}
use Rattle.lines.specs.Lines.{upper_line_by, lower_line_by, IsParts}
use Rattle.lines.proofs.Quotients.{down_small, up_small}

-- 256·T
module _ (s : Sums) (b : Bounded s) where
  pub parts_small : nat_abs (pos line_parts *ℤ s.t) ≤ 2 ^ 28
  parts_small = omega (arith, magnitude_times line_parts s.t, sum_small s b)

  pub sum_parts : Held (pos line_parts *ℤ to_z w64 (of_z w64 s.t)) (pos line_parts *ℤ s.t)
  sum_parts = held (rw (to_z-of_z (sum_fits s b))) (small_fits (omega (arith, parts_small)))

-- a line k of at most 2^34 parts, as the program holds it
are_parts : (k r : ℤ) → r ≡ k → nat_abs k ≤ 2 ^ 34 → IsParts k (to_z w64 (of_z w64 r))
are_parts k r e h =
    let own : to_z w64 (of_z w64 r) ≡ k = ap (λ (z : ℤ). to_z w64 (of_z w64 z)) e ∙ to_z-of_z {w = w64} (small_fits (omega arith)) in
    record { same = own; small = omega (arith, ap nat_abs own) }

module _ (s : Sums) (b : Bounded s) (t : ℤ) (e : t ≡ pos line_parts *ℤ s.t) where
  held_sum_lem : to_z w64 (of_z w64 t) ≡ pos line_parts *ℤ s.t
  held_sum_lem = ap (λ (z : ℤ). to_z w64 (of_z w64 z)) e ∙ to_z-of_z {w = w64} (small_fits (omega (arith, parts_small s b)))

  -- the mean: 256·T / n
  pub mean_parts : (r : ℤ) → r ≡ quotient_down (to_z w64 (of_z w64 t)) s.n → IsParts (mean_line (sums_say s)) (to_z w64 (of_z w64 r))
  unfolding mean_line
  mean_parts r f =
      are_parts _ r (rw held_sum_lem at f) (omega (arith, down_small (pos line_parts *ℤ s.t) s.n, parts_small s b))

-- 256·T + d and 256·T − d, for a d of 32 bits
module _ (s : Sums) (b : Bounded s) (d : ℕ) (few : d < 2 ^ 32) where
  pub plus_small : nat_abs (pos line_parts *ℤ s.t +ℤ pos d) ≤ 2 ^ 34
  plus_small = omega (arith, parts_small s b, magnitude_plus (pos line_parts *ℤ s.t) (pos d))

  pub minus_small : nat_abs (pos line_parts *ℤ s.t -ℤ pos d) ≤ 2 ^ 34
  minus_small = omega (arith, parts_small s b, magnitude_plus (pos line_parts *ℤ s.t) (neg_ℤ (pos d)), magnitude_negated (pos d))

-- .. as the program holds them: t is the 256·T that it worked out
pub record Terms (s : Sums) (t : ℤ) (d : ℕ) : Type 0 where
  pub bounded : Bounded s
  pub sum_is : t ≡ pos line_parts *ℤ s.t
  pub few : d < 2 ^ 32

module _ {s : Sums} {t : ℤ} {d : ℕ} (terms : Terms s t d) where
  sum_held : to_z w64 (of_z w64 t) ≡ pos line_parts *ℤ s.t
  sum_held = held_sum_lem s terms.bounded t terms.sum_is

  pub plus_held : Held (to_z w64 (of_z w64 t) +ℤ to_z w64 d) (pos line_parts *ℤ s.t +ℤ pos d)
  plus_held =
      held (rw (sum_held, to_z_pos w64 {n = d} (omega (arith, terms.few))))
      (small_fits (omega (arith, plus_small s terms.bounded d terms.few)))

  pub minus_held : Held (to_z w64 (of_z w64 t) -ℤ to_z w64 d) (pos line_parts *ℤ s.t -ℤ pos d)
  minus_held =
      held (rw (sum_held, to_z_pos w64 {n = d} (omega (arith, terms.few))))
      (small_fits (omega (arith, minus_small s terms.bounded d terms.few)))

  -- .. divided by n
  pub upper_parts : (r : ℤ) → r ≡ quotient_down (to_z w64 (of_z w64 (to_z w64 (of_z w64 t) +ℤ to_z w64 d))) s.n
      → IsParts (upper_line_by d (sums_say s)) (to_z w64 (of_z w64 r))
  unfolding upper_line_by
  upper_parts r f =
      let z = pos line_parts *ℤ s.t +ℤ pos d in
      let small = plus_small s terms.bounded d terms.few in
      are_parts (quotient_down z s.n) r (rw plus_held.is at f) (omega (arith, down_small z s.n, small))

  pub lower_parts : (r : ℤ) → r ≡ quotient_up (to_z w64 (of_z w64 (to_z w64 (of_z w64 t) -ℤ to_z w64 d))) s.n
      → IsParts (lower_line_by d (sums_say s)) (to_z w64 (of_z w64 r))
  unfolding lower_line_by
  lower_parts r f =
      let z = pos line_parts *ℤ s.t -ℤ pos d in
      let small = minus_small s terms.bounded d terms.few in
      are_parts (quotient_up z s.n) r (rw minus_held.is at f) (omega (arith, up_small z s.n, small))

-- the greatest d for which d / n is at most 256·m·S gives the line for the multiple m
module _ (m d : ℕ) (s : limits.Sums) (is : d ≡ greatest_deviation (line_parts * m) s) where
  pub upper_by : upper_line_by d s ≡ upper_line m s
  unfolding upper_line_by upper_line
  upper_by = rw is

  pub lower_by : lower_line_by d s ≡ lower_line m s
  unfolding lower_line_by lower_line
  lower_by = rw is

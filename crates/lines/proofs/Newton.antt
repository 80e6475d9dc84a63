-- A square root by Newton's method. The guesses are at most 2^32, they fall, and they are never below the root of q. q is not 0.
use Rattle.std.proofs.Common.{◌≡◌, ℕ, zero, suc, ◌+◌, ◌-◌, ◌*◌, ◌/◌, ◌%◌, ◌^◌, ◌<◌, ◌≤◌, ap, ◌∙◌, mul-le-mul, mul-le-mul_left, one-mul, le-div_iff_mul-le, arith, lit<, pow_pos, pow_mono, pow-add, shl_exact}
use native.Mathlib.Nat.{le_dest, lt-mul-div-succ}
use lib.Count.{count_leading_zeros, leading_length}
use Rattle.rules.specs.SquareRoot.{square_root}
use Rattle.rules.proofs.Integers.{by_order}
use Rattle.rules.proofs.SquareRoot.{root_only}

pub record IsGuess (q guess : ℕ) : Type 0 where
  pub not_below : q < (guess + 1) * (guess + 1)
  pub some : 1 ≤ guess
  pub most : guess ≤ 2 ^ 32

-- ---- the first guess

-- half the number of binary digits of q, rounded up
abbrev pub half_digits : ℕ → ℕ
half_digits q = (65 - count_leading_zeros 64 q) / 2

pub half_few : (q : ℕ) → q < 2 ^ 64 → half_digits q ≤ 32
half_few q h = let (digits, count, below, not-above) = leading_length 64 q h in omega (arith, count)

-- 2 to that power, as the program shifts it
pub first_guess : (q : ℕ) → q < 2 ^ 64 → IsGuess q ((1 * 2 ^ half_digits q) % 2 ^ 64)
first_guess q h =
    let s = half_digits q in
    let few = half_few q h in
    let (digits, count, below, not-above) = leading_length 64 q h in
    let twice : digits ≤ s + s = omega (arith, count) in
    let shifted : (1 * 2 ^ s) % 2 ^ 64 ≡ 2 ^ s = shl_exact {a = 1} 1 s 64 (lit< tt) (omega arith) ∙ one-mul (2 ^ s) in
    let above : q < 2 ^ s * 2 ^ s = omega (arith, below, pow_mono twice, pow-add 2 s s) in
    rw shifted (record { not_below = omega arith; some = pow_pos s; most = pow_mono few })

-- ---- a step

abbrev pub next_guess : ℕ → ℕ → ℕ
next_guess q guess = (guess + q / guess) / 2

-- twice the product of two numbers is at most the sum of their squares
squares_more : (a b : ℕ) → 2 * (a * b) ≤ a * a + b * b
squares_more a b =
    by_order a b
    (λ h. let (d, is) = le_dest h in omega (arith, ap (λ (x : ℕ). b * x) is, ap (λ (x : ℕ). x * x) is))
    (λ h. let more : a ≤ b = omega arith in
    let (d, is) = le_dest more in
    omega (arith, ap (λ (x : ℕ). a * x) is, ap (λ (x : ℕ). x * x) is))

-- so the square of the mean of two numbers, rounded up, is not less than their product
mean_square : (q a b m : ℕ) → q < a * (b + 1) → a + b + 1 ≤ 2 * m → q < m * m
mean_square q a b m less sum = omega (arith, squares_more a m, mul-le-mul_left a sum)

not_zero : (q guess : ℕ) → 1 ≤ q → q < (guess + 1) * (guess + 1) → 1 ≤ guess
not_zero q zero some h = absurd (omega arith)
not_zero q (suc guess) some h = omega arith

module _ (q guess : ℕ) (is : IsGuess q guess) where
  -- if q / guess is below the guess, the next guess is less
  pub next_less : q / guess < guess → next_guess q guess < guess
  next_less h = omega arith

  pub next_guess_lem : 1 ≤ q → q / guess < guess → IsGuess q (next_guess q guess)
  next_guess_lem some h =
      let above = mean_square q guess (q / guess) (next_guess q guess + 1) (lt-mul-div-succ q is.some) (omega arith) in
      record { not_below = above; some = not_zero q (next_guess q guess) some above; most = omega (arith, is.most) }

  -- if q / guess is not below the guess, the guess is the root
  square_most : guess ≤ q / guess → guess * guess ≤ q
  square_most h = let (least, most) = le-div_iff_mul-le is.some in least h

  pub root_found : guess ≤ q / guess → guess ≡ square_root q
  root_found h = root_only q guess (square_most h) is.not_below

  pub root_fits : q < 2 ^ 64 → guess ≤ q / guess → guess < 2 ^ 32
  root_fits fits h =
      by_order guess (2 ^ 32) (λ g. absurd (omega (arith, mul-le-mul g g, square_most h))) (λ g. g)

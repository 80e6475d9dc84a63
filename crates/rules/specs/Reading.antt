-- Document 01, "From readings to words": what a post, a reanalysis and a word formed alone bring.
use Rattle.std.specs.Prelude.{ℕ, ℤ}

-- "A call takes a kind and three numbers in the order below". Kind 1, duplicate: X1, X2. Kind 2, check: found X, made up A. Kind 3, spike:
-- spiked SSR, unspiked SR, added SA. "kinds 1 and 2 ignore the third"
pub record Reading : Type 0 where
  pub kind : ℕ
  pub first : ℤ
  pub second : ℤ
  pub third : ℤ

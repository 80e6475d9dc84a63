-- What the types of `words` say in the paper's terms.
use Rattle.std.specs.Prelude.{◌≡◌, Bool, true, false, ℕ, ◌≤◌, ◌<◌, ◌^◌, ℤ, pos, nat_abs, neg_ℤ}
use Rattle.std.specs.Int.Signed.{lt_z}
use Rattle.rules.specs.Word as rules
use Rattle.words.specs.declared.Quotient.{Quotient}

-- an integer by its sign and magnitude
abbrev pub signed : Bool → ℕ → ℤ
signed true n = neg_ℤ (pos n)
signed false n = pos n

-- the natural number n is the reading x
pub record ReadingIs (x : ℤ) (n : ℕ) : Type 0 where
  pub same : pos n ≡ x
  pub small : n ≤ rules.reading_most

-- q is the paper's quotient before rounding, with the sign and the magnitude of its numerator. The numerator is so small that the rounded
-- quotient fits sixty-four signed bits
pub record IsQuotient (kind : ℕ) (a b c : ℤ) (q : Quotient) : Type 0 where
  pub is_sign : q.negative ≡ lt_z (rules.numerator kind a b c) (pos 0)
  pub is_magnitude : q.numerator ≡ nat_abs (rules.numerator kind a b c)
  pub is_divisor : q.divisor ≡ nat_abs (rules.divisor kind a b c)
  pub small : q.numerator < 2 ^ 63

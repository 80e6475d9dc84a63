-- What a call gives: its answer, or the number of a refusal. Document 01: "A refusal returns its number".
use Rattle.std.specs.Prelude.{ℕ, zero, suc}

-- the call gives its answer, or it is refused with a number
pub data Outcome (A : Type 0) : Type 0 where
  given : A → Outcome A
  refused : (number : ℕ) → Outcome A

-- what follows if the first part is given. If the first part is refused, so is the whole
abbrev pub and_then : {A B : Type 0} → Outcome A → (A → Outcome B) → Outcome B
and_then (given x) next = next x
and_then (refused n) next = refused n

-- the conditions that come first give a number: that of the first refusal that applies, or 0 if none does. A number that is not 0 is the refusal
abbrev pub unless_number : {A : Type 0} → ℕ → Outcome A → Outcome A
unless_number zero outcome = outcome
unless_number (suc n) outcome = refused (suc n)

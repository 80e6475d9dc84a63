-- The numbers of the refusals, and what a `Result` with a refusal says.
use Rattle.std.specs.Prelude.{ℕ, Result, Ok, Err}
use Rattle.rules.specs.Outcome.{Outcome, given, refused}
use Rattle.refusals.specs.declared.Refusal.{Refusal}
use Rattle.refusals.specs.declared.Refusal.TheVariants as case

-- document 01, "Numbers for what is declined", and 16 of document 02, Q-4
unfoldable pub refusal_number : Refusal → ℕ
refusal_number case.NoKind = 1
refusal_number case.WordCount = 2
refusal_number case.BaseWord = 3
refusal_number case.AnotherKind = 4
refusal_number case.NoReading = 5
refusal_number case.Divisor = 6
refusal_number case.NoWord = 7
refusal_number case.NotFree = 8
refusal_number case.SeriesFull = 9
refusal_number case.NoReanalysisDue = 10
refusal_number case.NoCorrectionDue = 11
refusal_number case.TooFewWords = 12
refusal_number case.NoStoredForm = 13
refusal_number case.NotSound = 14
refusal_number case.NoRoom = 15
refusal_number case.TooFewStand = 16

-- what a call gives, for refusals of any type that has numbers: its answer, or the refusal's number
abbrev pub result_says_by : {A R : Type 0} → (R → ℕ) → Result A R → Outcome A
result_says_by number_of (Ok a) = given a
result_says_by number_of (Err r) = refused (number_of r)

-- the same for the refusals of the table
unfoldable pub result_says : {A : Type 0} → Result A Refusal → Outcome A
result_says r = result_says_by refusal_number r

-- "A refusal returns its number": the number, or 0 if the call gives its answer
unfoldable pub answered_number : {A : Type 0} → Result A Refusal → ℕ
answered_number (Ok a) = 0
answered_number (Err r) = refusal_number r

-- What a call answers, as parts: a word and a verdict, a word and passed or failed, rounds and a number removed; and these parts in lent
-- places.
use Rattle.std.specs.Prelude.{◌≡◌, ℕ, ℤ, pos}
use Rattle.rules.specs.Outcome.{Outcome, given}
use Rattle.rules.specs.Outcome as outcome
use Rattle.rules.specs.Machine.{Answer, judged, reanalysed, corrected, renewed, refused}
use Rattle.chart_c.specs.Lent.{answered_number, lent_after, flag}

-- ---- the parts of an answer. A part that the call does not answer is 0

pub record Parts : Type 0 where
  pub word : ℤ
  pub verdict : ℕ
  -- 1 for passed, 0 for failed
  pub passed : ℕ
  pub rounds : ℕ
  pub removed : ℕ

abbrev pub word_parts : (w : ℤ) (verdict passed : ℕ) → Parts
word_parts w verdict passed = record { word = w; verdict = verdict; passed = passed; rounds = 0; removed = 0 }

abbrev pub count_parts : (rounds removed : ℕ) → Parts
count_parts rounds removed = record { word = pos 0; verdict = 0; passed = 0; rounds = rounds; removed = removed }

-- a call that the machine refuses is refused with the machine's number. A reanalysis answers 1 for passed, 0 for failed
unfoldable pub answer_outcome : Answer → Outcome Parts
answer_outcome (judged w v) = given (word_parts w v 0)
answer_outcome (reanalysed w passed) = given (word_parts w 0 (flag passed))
answer_outcome corrected = given (count_parts 0 0)
answer_outcome (renewed rounds removed) = given (count_parts rounds removed)
answer_outcome (refused n) = outcome.refused n

-- ---- two parts in two lent places, and the number that is answered

pub record Fills {B C : Type 0} (first : Parts → B) (second : Parts → C) (o : Outcome Parts) (x x' : B) (y y' : C) (number : ℕ) :
    Type 0 where
  pub answered : number ≡ answered_number o
  pub of_first : x' ≡ lent_after first x o
  pub of_second : y' ≡ lent_after second y o

-- a post: word and verdict
abbrev pub Judges : Outcome Parts → (word word' : ℤ) (verdict verdict' number : ℕ) → Type 0
Judges = Fills (λ (p : Parts). p.word) (λ (p : Parts). p.verdict)

-- a reanalysis: the word, and passed or failed
abbrev pub Reanalyses : Outcome Parts → (word word' : ℤ) (passed passed' number : ℕ) → Type 0
Reanalyses = Fills (λ (p : Parts). p.word) (λ (p : Parts). p.passed)

-- building and renewal: rounds and the number removed
abbrev pub Counts : Outcome Parts → (rounds rounds' removed removed' number : ℕ) → Type 0
Counts = Fills (λ (p : Parts). p.rounds) (λ (p : Parts). p.removed)

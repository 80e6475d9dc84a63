-- What a call on a chart gives: the machine's step on the state that the chart stands for. All four calls have the same shape.
use Rattle.std.specs.Prelude.{◌≡◌, ℕ, ℤ, List, [], ◌∷◌, Result, Ok, Err}
use Rattle.rules.specs.Outcome.{Outcome, unless_number}
use Rattle.rules.specs.Choice.{choose}
use Rattle.rules.specs.Machine.{Call, Answer, Next, judged, reanalysed, corrected, renewed, refused, word_for, step}
use Rattle.refusals.specs.Refusal.{refusal_number}
use Rattle.refusals.specs.declared.Refusal.{Refusal}
use Rattle.judging.specs.Verdicts.{verdict_number}
use Rattle.chart.specs.declared.Chart.{Chart}
use Rattle.chart.specs.declared.Judged.{Judged}
use Rattle.chart.specs.declared.Retested.{Retested}
use Rattle.chart.specs.declared.Counts.{Counts}
use Rattle.chart.specs.Chart.{state_of, chart_of}
use Rattle.chart.specs.Soundness.{sound_chart}

-- 14 "a chart value handed in: not sound" comes before all refusals of the machine, and the call gives back the same chart. A sound chart
-- whose arrays have the lengths of its type is the chart that stands for its state (`chart_of-state` in `proofs/State`). So a call that the
-- machine refuses gives back the same chart too
unfoldable pub next_chart : Chart → Call → Chart
next_chart c call = choose (sound_chart c) (chart_of (step (state_of c) call).state) c

unfoldable pub answer_to : Chart → Call → Answer
answer_to c call = choose (sound_chart c) (step (state_of c) call).answer (refused 14)

-- the contract of every call: the chart that it gives back, and what its answer says
pub record Gives (c : Chart) (call : Call) (next : Chart) (answer : Answer) : Type 0 where
  pub chart : next ≡ next_chart c call
  pub says : answer ≡ answer_to c call

-- ---- what parts of the calls give

-- what a call that is not refused does: the chart stands for the next state, and the answer is the machine's
pub record Does (next : Next) (c : Chart) (answer : Answer) : Type 0 where
  pub chart : c ≡ chart_of next.state
  pub says : answer ≡ next.answer

-- a number that is not 0 refuses the call. If it is 0, the call's reading decides
unfoldable pub word_unless : ℕ → ℕ → ℕ → ℤ → ℤ → ℤ → Outcome ℤ
word_unless number chart_kind kind a b c = unless_number number (word_for chart_kind kind a b c)

-- ---- what the cases of each call's answer say, for refusals of any type that has numbers

-- `word_of` and `verdict_of` give the word that was judged and the verdict's number
abbrev pub post_says_by : {J R : Type 0} → (J → ℤ) → (J → ℕ) → (R → ℕ) → Result J R → Answer
post_says_by word_of verdict_of number_of (Ok a) = judged (word_of a) (verdict_of a)
post_says_by word_of verdict_of number_of (Err r) = refused (number_of r)

abbrev pub reanalysis_says_by : {R : Type 0} → (R → ℕ) → Result Retested R → Answer
reanalysis_says_by number_of (Ok a) = reanalysed a.word a.passed
reanalysis_says_by number_of (Err r) = refused (number_of r)

abbrev pub correction_says_by : {R : Type 0} → (R → ℕ) → Result (Unit {0}) R → Answer
correction_says_by number_of (Ok _) = corrected
correction_says_by number_of (Err r) = refused (number_of r)

abbrev pub renewal_says_by : {R : Type 0} → (R → ℕ) → Result Counts R → Answer
renewal_says_by number_of (Ok a) = renewed a.rounds a.removed
renewal_says_by number_of (Err r) = refused (number_of r)

-- ---- the same for what the calls give

unfoldable pub post_says : Result Judged Refusal → Answer
post_says r = post_says_by (λ a. a.word) (λ a. verdict_number a.verdict) refusal_number r

unfoldable pub reanalysis_says : Result Retested Refusal → Answer
reanalysis_says r = reanalysis_says_by refusal_number r

unfoldable pub correction_says : Result (Unit {0}) Refusal → Answer
correction_says r = correction_says_by refusal_number r

unfoldable pub renewal_says : Result Counts Refusal → Answer
renewal_says r = renewal_says_by refusal_number r

-- ---- a list of calls: "The first call takes the chart from building or reading, each later one the chart that the call before it gave
-- back". By its contract a call gives `next_chart` and `answer_to`. `proofs/Runs` proves that these runs agree with the machine's

unfoldable pub chart_after_calls : Chart → List Call → Chart
chart_after_calls c [] = c
chart_after_calls c (call ∷ calls) = chart_after_calls (next_chart c call) calls

unfoldable pub answers_to : Chart → List Call → List Answer
answers_to c [] = []
answers_to c (call ∷ calls) = answer_to c call ∷ answers_to (next_chart c call) calls

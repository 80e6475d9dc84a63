-- Laws of what a call answers as parts (`parts_of` and the four calls), of two parts in lent places (`filled`, `not_filled`), and of the
-- chart and the places together (`leaves`, `leaves_parts`).
use mathlib.Core.Path.{◌≡◌, refl, ap, ◌∙◌}
use mathlib.Core.List.{List}
use Prim.Native.Nat.{ℕ}
use Rattle.std.specs.Prelude.{Result, Ok, Err}
use Rattle.rules.specs.Outcome.{Outcome, given, refused, and_then}
use Rattle.refusals.specs.Refusal.{result_says}
use Rattle.refusals.specs.Refusal as refusal
use Rattle.refusals.specs.declared.Refusal.{Refusal}
use Rattle.chart.specs.declared.Counts as chart
use Rattle.chart.specs.declared.Judged.{Judged}
use Rattle.chart.specs.declared.Retested.{Retested}
use Rattle.judging.specs.Verdicts.{verdict_number}
use Rattle.chart.specs.Calls.{post_says, reanalysis_says, correction_says, renewal_says}
use Rattle.chart_c.specs.Lent.{answered_number, lent_after, flag}
use Rattle.chart_c.specs.Answers.{Parts, word_parts, count_parts, answer_outcome, Fills}
use Rattle.chart_c.specs.Forms.{Answered, LeavesChart, parts_in, KeepsChart}
use Rattle.chart_c.specs.Calls.{Leaves}

-- ---- the parts that an answer stands for

abbrev pub parts_of : {A : Type 0} → (A → Parts) → Outcome A → Outcome Parts
parts_of {A} parts o = and_then o (λ (x : A). given (parts x))

abbrev pub judged_parts : Judged → Parts
judged_parts a = word_parts a.word (verdict_number a.verdict) 0

abbrev pub retested_parts : Retested → Parts
retested_parts a = word_parts a.word 0 (flag a.passed)

abbrev pub no_parts : Unit {0} → Parts
no_parts _ = count_parts 0 0

abbrev pub counted_parts : chart.Counts → Parts
counted_parts a = count_parts a.rounds a.removed

pub post_parts : (r : Result Judged Refusal) → answer_outcome (post_says r) ≡ parts_of judged_parts (result_says r)
unfolding answer_outcome post_says result_says
post_parts (Ok a) = refl
post_parts (Err e) = refl

pub reanalysis_parts : (r : Result Retested Refusal) → answer_outcome (reanalysis_says r) ≡ parts_of retested_parts (result_says r)
unfolding answer_outcome reanalysis_says result_says
reanalysis_parts (Ok a) = refl
reanalysis_parts (Err e) = refl

pub correction_parts : (r : Result (Unit {0}) Refusal) → answer_outcome (correction_says r) ≡ parts_of no_parts (result_says r)
unfolding answer_outcome correction_says result_says
correction_parts (Ok a) = refl
correction_parts (Err e) = refl

pub renewal_parts : (r : Result chart.Counts Refusal) → answer_outcome (renewal_says r) ≡ parts_of counted_parts (result_says r)
unfolding answer_outcome renewal_says result_says
renewal_parts (Ok a) = refl
renewal_parts (Err e) = refl

-- the number alone
pub number_kept : (r : Result (Unit {0}) Refusal) → refusal.answered_number r ≡ answered_number (parts_of no_parts (result_says r))
unfolding answered_number refusal.answered_number result_says
number_kept (Ok a) = refl
number_kept (Err e) = refl

-- ---- two parts in two lent places

module _ {B C : Type 0} {first : Parts → B} {second : Parts → C} {x : B} {y : C} where
  pub filled : {p : Parts} {x' : B} {y' : C} → x' ≡ first p → y' ≡ second p → Fills first second (given p) x x' y y' 0
  unfolding answered_number lent_after
  filled e f = record { answered = refl; of_first = e; of_second = f }

  pub not_filled : {n : ℕ} → Fills first second (refused n) x x y y n
  unfolding answered_number lent_after
  not_filled = record { answered = refl; of_first = refl; of_second = refl }

-- ---- the chart and the places together

-- the same chart, with the parts that the answer stands for
abbrev pub with_parts : {A : Type 0} → (A → Parts) → Outcome (Answered A) → Outcome (Answered Parts)
with_parts {A} parts o = and_then o (λ (x : Answered A). given (record { state = x.state; parts = parts x.parts }))

module _ {A : Type 0} (parts : A → Parts) where
  parts_left : (o : Outcome (Answered A)) → parts_of parts (parts_in o) ≡ parts_in (with_parts parts o)
  unfolding parts_in
  parts_left (given x) = refl
  parts_left (refused n) = refl

  module _ {before after : List ℕ} {size size' : ℕ} where
    chart_left : (o : Outcome (Answered A)) → LeavesChart o before after size size'
        → LeavesChart (with_parts parts o) before after size size'
    unfolding lent_after
    chart_left (given x) l = record { buffer = l.buffer; count = l.count }
    chart_left (refused n) l = record { buffer = l.buffer; count = l.count }

    -- a call answers r. What holds for the parts that r stands for holds for those of the outcome
    pub leaves : {o : Outcome (Answered A)} {r : Result A Refusal} (Places : Outcome Parts → Type 0)
        → KeepsChart o before after size size' r → Places (parts_of parts (result_says r))
        → Leaves (with_parts parts o) before after size size' Places
    leaves {o} Places kept filled =
        let left = ap (λ (x : Outcome A). parts_of parts x) kept.says ∙ parts_left o in
        record { chart = chart_left o kept.chart; places = rw left at filled }

-- ---- an answer that is itself parts stands for these parts

own_outcome : (o : Outcome (Answered Parts)) → with_parts (λ (p : Parts). p) o ≡ o
own_outcome (given x) = refl
own_outcome (refused n) = refl

own_answer : (r : Result Parts Refusal) → result_says r ≡ parts_of (λ (p : Parts). p) (result_says r)
unfolding result_says
own_answer (Ok p) = refl
own_answer (Err e) = refl

pub leaves_parts : {o : Outcome (Answered Parts)} {before after : List ℕ} {size size' : ℕ} {r : Result Parts Refusal}
    (Places : Outcome Parts → Type 0) → KeepsChart o before after size size' r → Places (result_says r)
    → Leaves o before after size size' Places
leaves_parts {o} {r = r} Places kept filled =
    rw (own_outcome o) at (leaves (λ (p : Parts). p) Places kept (rw (own_answer r) at filled))

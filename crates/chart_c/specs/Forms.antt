-- The chart in its stored form, in a lent buffer.
use Rattle.std.specs.Prelude.{◌≡◌, List, ℕ, length, take, leb, Result}
use Rattle.rules.specs.Outcome.{Outcome, given, refused, and_then}
use Rattle.rules.specs.Choice.{require}
use Rattle.rules.specs.Buffer.{at_front}
use Rattle.rules.specs.State.{State}
use Rattle.rules.specs.StoredForm.{stored_form, form_fits}
use Rattle.rules.specs.Lists.{bytes_start}
use Rattle.refusals.specs.Refusal.{result_says}
use Rattle.refusals.specs.declared.Refusal.{Refusal}
use Rattle.chart_c.specs.Lent.{lent_after}

-- ---- the chart in a buffer

-- "read 13, 14": the form is the first `size` bytes of the buffer. A buffer with fewer bytes is refused with 13
unfoldable pub front_start : List ℕ → ℕ → Outcome State
front_start buffer size = require (leb size (length buffer)) (refused 13) (bytes_start (take size buffer))

-- ---- a chart put into a buffer

-- the chart after a call, and what the call answers
pub record Answered (A : Type 0) : Type 0 where
  pub state : State
  pub parts : A

-- 15 "buffer shorter than the stored form" comes last: a call that the machine accepts is still refused if there is no room for the chart
-- after it. Writing tests 14 before 15, but 14 never applies: building and a call on a sound chart give a sound chart
unfoldable pub if_room : {A : Type 0} → List ℕ → State → A → Outcome (Answered A)
if_room buffer s parts = require (form_fits s buffer) (refused 15) (given (record { state = s; parts = parts }))

-- an answer that is refused stays refused. Else it is 15, or the chart and the parts
abbrev pub kept_in : {A : Type 0} → List ℕ → State → Outcome A → Outcome (Answered A)
kept_in buffer s o = and_then o (if_room buffer s)

-- what a call leaves in the buffer and in the place of the form's size. The form goes to the front of the buffer "and leaves those after
-- the form untouched"
pub record LeavesChart {A : Type 0} (o : Outcome (Answered A)) (before after : List ℕ) (size size' : ℕ) : Type 0 where
  pub buffer : after ≡ lent_after (λ (x : Answered A). at_front (stored_form x.state) before) before o
  pub count : size' ≡ lent_after (λ (x : Answered A). length (stored_form x.state)) size o

-- the parts that are answered
unfoldable pub parts_in : {A : Type 0} → Outcome (Answered A) → Outcome A
parts_in {A} o = and_then o (λ (x : Answered A). given x.parts)

-- ---- what the private functions give: the chart that is left, and the answer
pub record KeepsChart {A : Type 0} (o : Outcome (Answered A)) (before after : List ℕ) (size size' : ℕ) (r : Result A Refusal) :
    Type 0 where
  pub chart : LeavesChart o before after size size'
  pub says : result_says r ≡ parts_in o

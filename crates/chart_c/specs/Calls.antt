-- A word alone, building, and the four calls on a chart.
use Rattle.std.specs.Prelude.{◌≡◌, List, ℕ, leb, ℤ}
use Rattle.rules.specs.Outcome.{Outcome, and_then}
use Rattle.rules.specs.Choice.{choose}
use Rattle.rules.specs.State.{State}
use Rattle.rules.specs.Building.{BuiltState}
use Rattle.rules.specs.Machine as machine
use Rattle.rules.specs.Machine.{step}
use Rattle.chart_c.specs.Lent.{answered_number, lent_after}
use Rattle.chart_c.specs.Answers.{Parts, count_parts, answer_outcome}
use Rattle.chart_c.specs.Forms.{Answered, front_start, if_room, kept_in, LeavesChart, parts_in}

-- ---- "a word formed alone": 1, 5, 6, 7

pub record FormsWord (o : Outcome ℤ) (word word' : ℤ) (number : ℕ) : Type 0 where
  pub answered : number ≡ answered_number o
  pub of_word : word' ≡ lent_after (λ (w : ℤ). w) word o

-- ---- building: 1, 2, 3, 16, and then 15

unfoldable pub built_outcome : List ℕ → Outcome BuiltState → Outcome (Answered Parts)
built_outcome buffer a = and_then a (λ (b : BuiltState). if_room buffer b.state (count_parts b.rounds b.removed))

-- ---- the four calls: 13, 14, then the machine's refusals, and then 15

-- one step of the machine, from the chart in the first `size` bytes of the buffer
unfoldable pub called : List ℕ → ℕ → machine.Call → Outcome (Answered Parts)
called buffer size c =
    and_then (front_start buffer size)
    (λ (s : State). kept_in buffer (step s c).state (answer_outcome (step s c).answer))

-- ---- the contract of building and of the calls: the chart that is left, and what the lent places and the number say about the parts
-- that are answered
pub record Leaves (o : Outcome (Answered Parts)) (before after : List ℕ) (size size' : ℕ) (Places : Outcome Parts → Type 0) : Type 0 where
  pub chart : LeavesChart o before after size size'
  pub places : Places (parts_in o)

-- ---- what the private functions give

-- a number of sixteen bits stays as it is. A larger number is no chart's kind; it becomes 0, which is no chart's kind either
unfoldable pub kind_passed : ℕ → ℕ
kind_passed n = choose (leb n 65535) n 0

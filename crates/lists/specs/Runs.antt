-- What running an encoded list gives: the claim, or a refusal. Document 01 has no encoded lists. So a list that is refused for another
-- reason than its start has no number of the paper's.
use Rattle.std.specs.Prelude.{◌≡◌, List, [], ◌∷◌, ℕ, suc, ◌+◌, ◌≤◌, get_or, ℤ, pos, Result, Ok, Err}
use Rattle.rules.specs.Outcome.{Outcome, given, refused}
use Rattle.rules.specs.Choice.{require}
use Rattle.rules.specs.Buffer.{overwritten, at_front}
use Rattle.rules.specs.Sizes.{base_wanted, base_most, base_least}
use Rattle.rules.specs.State.{State}
use Rattle.rules.specs.Machine.{Call, Answer, renewed}
use Rattle.rules.specs.Lists as rules
use Rattle.refusals.specs.Refusal.{refusal_number}
use Rattle.refusals.specs.declared.Refusal.{Refusal}
use Rattle.chart.specs.declared.Chart.{Chart}
use Rattle.chart.specs.declared.sound.SoundChart.{SoundChart}
use Rattle.chart.specs.Chart.{zero_chart}
use Rattle.chart.specs.Calls.{next_chart, answer_to, chart_after_calls, answers_to}
use Rattle.lines.specs.Lines.{lines_answer_says, answer_to_lines}
use Rattle.lists.specs.declared.Run.{Run}
use Rattle.lists.specs.declared.ListRefusal.{ListRefusal}
use Rattle.lists.specs.declared.ListRefusal.TheVariants as list
use Rattle.lists.specs.declared.calls.Called.{Called}
use Rattle.lists.specs.declared.answers.Said.{Said}
use Rattle.lists.specs.Encoding.{kind_in_call, call_of, are_calls, calls_in, answers_fit, numbers_of, all_numbers_of}
use Rattle.lists.specs.Claim.{Claim}

-- ---- the answer to a list

-- the list was run; building or reading refused its start with this number; the numbers are not a list; the buffer has no room
pub data RunSaid : Type 0 where
  done : RunSaid
  start_refused : ℕ → RunSaid
  not_calls : RunSaid
  no_room : RunSaid

unfoldable pub list_refusal_says : ListRefusal → RunSaid
list_refusal_says (list.Start r) = start_refused (refusal_number r)
list_refusal_says list.NotCalls = not_calls
list_refusal_says list.NoRoom = no_room

unfoldable pub run_says : Result (Unit {0}) ListRefusal → RunSaid
run_says (Ok _) = done
run_says (Err e) = list_refusal_says e

-- the list is run from this start, or it is refused
pub data ListOutcome (A : Type 0) : Type 0 where
  runs : A → ListOutcome A
  declines : RunSaid → ListOutcome A

-- the order of the refusals: first numbers that are not a list, then a buffer without room for all answers, then a refused start
unfoldable pub outcome_of : {A : Type 0} → (start : ListOutcome A) (calls before : List ℤ) → ListOutcome A
outcome_of start calls before = require (are_calls calls) (declines not_calls) (require (answers_fit calls before) (declines no_room) start)

-- the machine's start, or the number with which building or reading refused
unfoldable pub machine_start : Outcome State → ListOutcome State
machine_start (given s) = runs s
machine_start (refused n) = declines (start_refused n)

-- a list that is run: the claim holds for its chart, its answers and its lines, and the answers stand at the front of the buffer. `before`
-- and `after` are the numbers of the lent buffer before the list and after it
pub record Ran (floor : ℕ) (s : State) (calls : List Call) (before after : List ℤ) (r : Run) : Type 0 where
  pub says : run_says r.answer ≡ done
  pub said : List Answer
  pub claim : Claim floor s calls r.chart said (lines_answer_says r.lines)
  pub buffer : after ≡ at_front (all_numbers_of said) before

-- nothing is run: the chart is the chart of zeros, and its lines are refused
pub record NothingRun (answer : RunSaid) (r : Run) : Type 0 where
  pub says : run_says r.answer ≡ answer
  pub chart : r.chart ≡ zero_chart
  pub lines : lines_answer_says r.lines ≡ refused 14

-- a list that is refused: no number of the buffer changes
pub record Declined (answer : RunSaid) (before after : List ℤ) (r : Run) : Type 0 where
  pub nothing : NothingRun answer r
  pub buffer : after ≡ before

abbrev pub RunGives : (floor : ℕ) → ListOutcome State → (calls before after : List ℤ) → Run → Type 0
RunGives floor (runs s) calls before after r = Ran floor s (calls_in calls) before after r
RunGives floor (declines answer) calls before after r = Declined answer before after r

abbrev pub RunsList : (floor : ℕ) → Outcome State → (calls before after : List ℤ) → Run → Type 0
RunsList floor start calls before after r = RunGives floor (outcome_of (machine_start start) calls before) calls before after r

-- the contracts of running a list: from a chart that is built of words, whose floor is 15, ..
abbrev pub RunsFromWords : (kind : ℕ) (words calls before after : List ℤ) → Run → Type 0
RunsFromWords kind words = RunsList base_wanted (rules.words_start kind words)

-- .. and from a chart that is read from bytes, whose floor is 10
abbrev pub RunsFromBytes : (bytes : List ℕ) (calls before after : List ℤ) → Run → Type 0
RunsFromBytes bytes = RunsList base_least (rules.bytes_start bytes)

-- ---- what the internal functions give

-- a list that is run on any chart
pub record RanOn (c : Chart) (calls before after : List ℤ) (r : Run) : Type 0 where
  pub says : run_says r.answer ≡ done
  pub chart : r.chart ≡ chart_after_calls c (calls_in calls)
  pub buffer : after ≡ at_front (all_numbers_of (answers_to c (calls_in calls))) before
  pub lines : lines_answer_says r.lines ≡ answer_to_lines r.chart

abbrev pub start_on : Result SoundChart Refusal → ListOutcome Chart
start_on (Ok c) = runs c.chart
start_on (Err r) = declines (start_refused (refusal_number r))

abbrev pub RunGivesOn : ListOutcome Chart → (calls before after : List ℤ) → Run → Type 0
RunGivesOn (runs c) calls before after r = RanOn c calls before after r
RunGivesOn (declines answer) calls before after r = Declined answer before after r

abbrev pub RunsFrom : Result SoundChart Refusal → (calls before after : List ℤ) → Run → Type 0
RunsFrom start calls before after r = RunGivesOn (outcome_of (start_on start) calls before) calls before after r

-- the chart after the calls, and their answers
pub record RunsCalls (c : Chart) (calls before after : List ℤ) (last : Chart) : Type 0 where
  pub chart : last ≡ chart_after_calls c (calls_in calls)
  pub buffer : after ≡ at_front (all_numbers_of (answers_to c (calls_in calls))) before

-- the chart after the calls, or why the list is refused. A refused list does not change the buffer
abbrev pub TriesOn : ListOutcome Chart → (calls before after : List ℤ) → Result Chart ListRefusal → Type 0
TriesOn (runs c) calls before after (Ok last) = RunsCalls c calls before after last
TriesOn (runs c) calls before after (Err e) = ⊥
TriesOn (declines answer) calls before after (Ok last) = ⊥
TriesOn (declines answer) calls before after (Err e) = (list_refusal_says e ≡ answer) × (after ≡ before)

abbrev pub TriesFrom : Result SoundChart Refusal → (calls before after : List ℤ) → Result Chart ListRefusal → Type 0
TriesFrom start calls before after r = TriesOn (outcome_of (start_on start) calls before) calls before after r

-- the call that stands at a place of the numbers
unfoldable pub call_at : List ℤ → ℕ → Call
call_at calls at =
    call_of (get_or calls at (pos 0)) (kind_in_call (get_or calls (at + 1) (pos 0)))
    (get_or calls (at + 2) (pos 0)) (get_or calls (at + 3) (pos 0)) (get_or calls (at + 4) (pos 0))

unfoldable pub said_numbers : Said → List ℤ
said_numbers s = s.number ∷ s.first ∷ s.second ∷ []

-- the counts in an answer are small: a renewal rejects from at most 32 words, and each of its rounds but the last removes one or more
abbrev pub Counted : Answer → Type 0
Counted answer = (rounds removed : ℕ) → answer ≡ renewed rounds removed → (rounds ≤ suc base_most) × (removed ≤ base_most)

-- one call
pub record IsCalled (c : Chart) (call : Call) (r : Called) : Type 0 where
  pub chart : r.chart ≡ next_chart c call
  pub says : said_numbers r.said ≡ numbers_of (answer_to c call)

-- the call at a place of the list, with its answer put into the buffer
pub record IsCalledAt (c : Chart) (calls : List ℤ) (at : ℕ) (before : List ℤ) (place : ℕ) (after : List ℤ) (r : Chart) : Type 0 where
  pub chart : r ≡ next_chart c (call_at calls at)
  pub buffer : after ≡ overwritten before place (numbers_of (answer_to c (call_at calls at)))

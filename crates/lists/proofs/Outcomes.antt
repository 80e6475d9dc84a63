-- What running a list gives: the chart after its calls, or a refusal (`without_calls`, `without_room`, `without_start`, `with_all`); the
-- result that these make (`was_run`, `not_run`); and, if the program's start is the machine's, the claim (`runs_list`).
use mathlib.Core.Path.{◌≡◌, refl, sym, ◌∙◌}
use mathlib.Core.Bool.{Bool, true, false, false≢true}
use mathlib.Core.List.{List}
use Prim.Native.Nat.{ℕ, ◌/◌, ◌<◌, ◌≤◌}
use lib.ListN.{length}
use lib.IntN.{ℤ}
use borrow.Author.Tests.{le-leb, lt-leb}
use Rattle.std.specs.Prelude.{Result, Ok, Err}
use Rattle.rules.specs.Outcome.{Outcome, given, refused}
use Rattle.rules.specs.Choice.{require}
use Rattle.rules.specs.Kind.{is_kind}
use Rattle.rules.specs.State.{State}
use Rattle.rules.proofs.Booleans.{by_test}
use Rattle.rules.proofs.Soundness.{sound_facts}
use Rattle.rules.proofs.Floor.{Starts}
use Rattle.rules.proofs.Outcome.{same_given, same_refused, given_not_refused}
use Rattle.refusals.specs.declared.Refusal.{Refusal}
use Rattle.chart.specs.declared.Chart.{Chart}
use Rattle.chart.specs.Chart.{state_of, chart_of, fresh_chart, zero_chart}
use Rattle.chart.specs.Soundness.{sound_chart}
use Rattle.chart.specs.Calls.{answers_to}
use Rattle.chart.proofs.SoundCharts.{sound_chart_facts}
use Rattle.chart.specs.Checked.{chart_says}
use Rattle.chart.specs.declared.sound.SoundChart.{SoundChart}
use Rattle.store.specs.HeldChart.{chart_of_start, IsHeld}
use Rattle.lines.specs.declared.Lines.{Lines}
use Rattle.lines.specs.Lines.{lines_answer_says, answer_to_lines}
use Rattle.lists.specs.declared.Run.{Run}
use Rattle.lists.specs.declared.ListRefusal.{ListRefusal}
use Rattle.lists.specs.declared.ListRefusal.TheVariants as list
use Rattle.lists.specs.Encoding.{call_size, answer_size, are_calls, calls_in, answers_fit}
use Rattle.lists.specs.Runs.{ListOutcome, runs, declines, not_calls, no_room, list_refusal_says, run_says, outcome_of, machine_start}
use Rattle.lists.specs.Runs.{Ran, RunGives, RunsList, RanOn, start_on, RunGivesOn, RunsFrom, RunsCalls, TriesOn, TriesFrom}
use Rattle.lists.proofs.Decoding.{room_is}
use Rattle.lists.proofs.Claims.{claim_of_run}

-- ---- nothing is run

zeros_not_sound : sound_chart zero_chart ≡ false
unfolding state_of zero_chart fresh_chart is_kind
zeros_not_sound =
    by_test (sound_chart zero_chart)
    (λ t. absurd (false≢true (sound_facts (state_of zero_chart) (sound_chart_facts zero_chart t).state).is_kind_lem))
    (λ t. t)

-- ---- the program's start, the list and the buffer, as the tests find them

pub fits_room : (calls room : List ℤ) → are_calls calls ≡ true → length calls / call_size ≤ length room / answer_size
    → answers_fit calls room ≡ true
fits_room calls room listed enough = room_is calls room listed ∙ le-leb (length calls / call_size) (length room / answer_size) enough

module _ (start : Result SoundChart Refusal) (calls room : List ℤ) where
  pub without_calls : are_calls calls ≡ false → TriesFrom start calls room room (Err list.NotCalls)
  unfolding outcome_of list_refusal_says
  without_calls h = rw h (refl, refl)

  module _ (listed : are_calls calls ≡ true) where
    pub without_room : length room / answer_size < length calls / call_size → TriesFrom start calls room room (Err list.NoRoom)
    unfolding outcome_of list_refusal_says
    without_room h =
        let none : answers_fit calls room ≡ false =
        room_is calls room listed ∙ lt-leb (length calls / call_size) (length room / answer_size) h in
        rw (listed, none) (refl, refl)

    module _ (enough : length calls / call_size ≤ length room / answer_size) where
      pub without_start : {refusal : Refusal} → start ≡ Err refusal → TriesFrom start calls room room (Err (list.Start refusal))
      unfolding outcome_of list_refusal_says
      without_start e = rw (listed, fits_room calls room listed enough, e) (refl, refl)

      pub with_all : {c : SoundChart} {last : Chart} {out : List ℤ} → start ≡ Ok c → RunsCalls c.chart calls room out last
          → TriesFrom start calls room out (Ok last)
      unfolding outcome_of
      with_all e ran = rw (listed, fits_room calls room listed enough, e) ran

-- the tests of a list, in their order
pub ruleset tests = (fits_room, without_calls, without_room, without_start, with_all)

-- ---- the result of what was tried

module _ (calls room out : List ℤ) (lines : Result Lines Refusal) where
  -- the list was run to its end
  pub was_run : (start : ListOutcome Chart) (last : Chart) → TriesOn start calls room out (Ok last)
      → lines_answer_says lines ≡ answer_to_lines last
      → RunGivesOn start calls room out (record { chart = last; answer = Ok tt; lines = lines })
  unfolding run_says
  was_run (runs c) last ran asked = record { says = refl; chart = ran.chart; buffer = ran.buffer; lines = asked }
  was_run (declines answer) last ran asked = absurd ran

  -- nothing was run
  pub not_run : (start : ListOutcome Chart) (refusal : ListRefusal) → TriesOn start calls room out (Err refusal)
      → lines_answer_says lines ≡ answer_to_lines zero_chart
      → RunGivesOn start calls room out (record { chart = zero_chart; answer = Err refusal; lines = lines })
  unfolding run_says answer_to_lines
  not_run (runs c) refusal stops asked = absurd stops
  not_run (declines answer) refusal stops asked =
      record {
        nothing = record { says = stops.0; chart = refl; lines = asked ∙ rw zeros_not_sound };
        buffer = stops.1;
      }

-- ---- from the machine's start

module _ (calls room out : List ℤ) (r : Run) (floor : ℕ) where
  -- a list that is refused because of its numbers or the buffer is refused in the same way
  past_the_tests : (listed fits : Bool) (a : ListOutcome State) (b : ListOutcome Chart)
      → (RunGivesOn b calls room out r → RunGives floor a calls room out r)
      → RunGivesOn (require listed (declines not_calls) (require fits (declines no_room) b)) calls room out r
      → RunGives floor (require listed (declines not_calls) (require fits (declines no_room) a)) calls room out r
  past_the_tests true true a b f h = f h
  past_the_tests true false a b f h = h
  past_the_tests false fits a b f h = h

  -- a list that is run on the chart that stands for a sound state
  ran_from : (s : State) → Starts floor s → RanOn (chart_of s) calls room out r → Ran floor s (calls_in calls) room out r
  ran_from s h on =
      record {
        says = on.says;
        said = answers_to (chart_of s) (calls_in calls);
        claim = claim_of_run s (calls_in calls) r.chart _ (lines_answer_says r.lines) floor h on.chart refl on.lines;
        buffer = on.buffer;
      }

  -- the start is what building or reading gave: a state that keeps the floor, or a refusal
  module _ (start : Outcome State) (p : Result SoundChart Refusal) (starts : (s : State) → start ≡ given s → Starts floor s)
      (is : IsHeld start p) where
    from_start : (a : Outcome State) → start ≡ a → (q : Result SoundChart Refusal) → p ≡ q → RunGivesOn (start_on q) calls room out r
        → RunGives floor (machine_start a) calls room out r
    unfolding machine_start chart_of_start chart_says
    from_start (given s) e (Ok c) f on = let own = rw (e, f) at is.says in ran_from s (starts s e) (rw (same_given own) at on)
    from_start (given s) e (Err refusal) f on = let own = rw (e, f) at is.says in given_not_refused (sym own)
    from_start (refused n) e (Ok c) f on = let own = rw (e, f) at is.says in given_not_refused own
    from_start (refused n) e (Err refusal) f on = let own = rw (e, f) at is.says in rw (same_refused own) at on

    pub runs_list : RunsFrom p calls room out r → RunsList floor start calls room out r
    unfolding outcome_of
    runs_list =
        past_the_tests (are_calls calls) (answers_fit calls room) (machine_start start) (start_on p)
        (from_start start refl p refl)

-- The claim of demand 3 for the result of a run of calls (`claim_of_run`). The machine's run is the chart's, and a sound state stays sound.
-- The base of a sound state has enough words to give the paper's lines.
use mathlib.Core.Path.{◌≡◌, ap, ◌∙◌}
use mathlib.Core.Bool.{true}
use mathlib.Core.List.{List}
use Prim.Native.Nat.{ℕ, ◌≤◌}
use native.Mathlib.Omega.{arith}
use lib.ListN.{length}
use Rattle.rules.specs.Outcome.{Outcome, given}
use Rattle.rules.specs.Sizes.{base_least}
use Rattle.rules.specs.State.{State, limits_for}
use Rattle.rules.specs.Limits.{limits_of, sums_of}
use Rattle.rules.specs.Machine.{Call, Answer, after, answers}
use Rattle.rules.specs.ChartLines.{Lines, lines_of, AreLineDoubles}
use Rattle.rules.proofs.Limits.{v_natural}
use Rattle.rules.proofs.Floor.{Starts, renewed_fifteen}
use Rattle.rules.proofs.Lines.{line_doubles}
use Rattle.chart.specs.declared.Chart.{Chart}
use Rattle.chart.specs.Chart.{state_of, chart_of}
use Rattle.chart.specs.Soundness.{sound_chart}
use Rattle.chart.specs.Calls.{chart_after_calls, answers_to}
use Rattle.chart.proofs.State.{state_of_chart}
use Rattle.chart.proofs.Runs.{sound_runs}
use Rattle.lines.specs.Lines.{answer_to_lines}
use Rattle.lists.specs.Claim.{Claim}

-- a base of ten words or more has lines
doubles_of-state : (s : State) → base_least ≤ length s.base → AreLineDoubles (limits_for s) (lines_of (limits_for s))
unfolding limits_for limits_of sums_of
doubles_of-state s ten = line_doubles (limits_of s.kind s.base) (omega arith) (v_natural s.base)

module _ (s : State) (calls : List Call) (chart : Chart) (said : List Answer) (lines : Outcome Lines)
    (floor : ℕ) (h : Starts floor s) (same : chart ≡ chart_after_calls (chart_of s) calls) (says : said ≡ answers_to (chart_of s) calls)
    (asked : lines ≡ answer_to_lines chart) where
  last_chart : chart ≡ chart_of (after s calls)
  last_chart = same ∙ (sound_runs s calls h.is_sound).chart

  last_state : state_of chart ≡ after s calls
  last_state = ap state_of last_chart ∙ state_of_chart (after s calls)

  last_sound : sound_chart chart ≡ true
  last_sound = ap sound_chart same ∙ (sound_runs s calls h.is_sound).stays_sound

  lines_answered : lines ≡ given (lines_of (limits_for (after s calls)))
  unfolding answer_to_lines
  lines_answered = asked ∙ rw (last_sound, last_state)

  last_answers : said ≡ answers s calls
  last_answers = says ∙ (sound_runs s calls h.is_sound).says

  pub claim_of_run : Claim floor s calls chart said lines
  claim_of_run =
      let ten = (sound_runs s calls h.is_sound).ten in
      record {
        same_chart = last_chart;
        same_answers = last_answers;
        sound = last_sound;
        ten = rw last_state ten;
        floor_stands = rw last_state (h.stand calls);
        fifteen_renewed = λ rounds removed m. rw last_state (renewed_fifteen s calls rounds removed (rw last_answers at m));
        answered = lines_answered;
        doubles = rw lines_answered (doubles_of-state (after s calls) ten);
      }

-- Demand 3, document 01, "Lists", and document 02, Q-4: one claim about a whole list of calls.
use Rattle.std.specs.Prelude.{◌≡◌, true, ℕ, ◌≤◌, length}
use mathlib.Core.List.{List, Memᴰ as Among}
use Rattle.rules.specs.Outcome.{Outcome, given}
use Rattle.rules.specs.Sizes.{base_wanted, base_least}
use Rattle.rules.specs.State.{State, limits_for}
use Rattle.rules.specs.Machine.{Call, Answer, renewed, after, answers}
use Rattle.rules.specs.ChartLines.{Lines, lines_of, AnswersLineDoubles}
use Rattle.chart.specs.declared.Chart.{Chart}
use Rattle.chart.specs.Chart.{state_of, chart_of}
use Rattle.chart.specs.Soundness.{sound_chart}

-- The machine starts from s. After the calls the program has the chart `chart`. Its calls answered `said`, and lines asked of that chart
-- answered `lines`. "The machine is fed its start and what the calls bring, never the program's chart or answers." `floor` is 15 for a
-- chart that was built and 10 for a chart that was read: `RunsFromWords` and `RunsFromBytes` say so
pub record Claim (floor : ℕ) (s : State) (calls : List Call) (chart : Chart) (said : List Answer)
    (lines : Outcome Lines) : Type 0 where
  -- chart kind, base, series, status and open verdict are the machine's, and unused places hold 0
  pub same_chart : chart ≡ chart_of (after s calls)
  -- every answer is the machine's
  pub same_answers : said ≡ answers s calls
  -- the chart is sound
  pub sound : sound_chart chart ≡ true
  -- after every list at least ten base words stand ..
  pub ten : base_least ≤ length (state_of chart).base
  -- .. document 02, Q-4: "after a new build or renewal the floor is 15". At least `floor` words stand ..
  pub floor_stands : floor ≤ length (state_of chart).base
  -- .. and at least fifteen, if a renewal of the list was accepted
  pub fifteen_renewed : (rounds removed : ℕ) → Among (renewed rounds removed) said → base_wanted ≤ length (state_of chart).base
  -- lines are answered ..
  pub answered : lines ≡ given (lines_of (limits_for (after s calls)))
  -- .. each line's double is the paper's, less than 1/256 from the exact value. A limit's double judges every word as the exact limit does
  pub doubles : AnswersLineDoubles (limits_for (after s calls)) lines

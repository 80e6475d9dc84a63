-- The program's chart and the paper's state: the state that a chart stands for, the chart that stands for a state, and what
-- building's answer says.
use Rattle.std.specs.Prelude.{◌≡◌, List, ℕ, length, take, replicate, ℤ, pos, Result, Ok, Err}
use Rattle.rules.specs.Outcome.{Outcome, given, refused}
use Rattle.rules.specs.Sizes.{base_most, series_most}
use Rattle.rules.specs.State.{State, state, limits_for}
use Rattle.rules.specs.Building.{BuiltState, building}
use Rattle.limits.specs.declared.bounded.Limits.{Limits}
use Rattle.limits.specs.Sums.{limits_say}
use Rattle.chart.specs.declared.Chart.{Chart}
use Rattle.chart.specs.declared.Called.{Called}
use Rattle.chart.specs.declared.Counts.{Counts}
use Rattle.refusals.specs.Refusal.{refusal_number}
use Rattle.refusals.specs.declared.Refusal.{Refusal}
use Rattle.chart.specs.Pad.{pad}

-- the state that a chart stands for
unfoldable pub state_of : Chart → State
state_of c =
    state c.kind (take c.base_len c.base) (take c.series_len c.series) c.status c.open_verdict

-- the chart that stands for a state: "unused places hold 0"
unfoldable pub chart_of : State → Chart
chart_of s =
    record {
      kind = s.kind;
      base = pad (pos 0) base_most s.base;
      base_len = length s.base;
      series = pad (pos 0) series_most s.series;
      series_len = length s.series;
      status = s.status;
      open_verdict = s.open_verdict;
    }

-- a chart with an empty series and status 0
unfoldable pub fresh_chart : ℕ → List ℤ → ℕ → Chart
fresh_chart kind base n =
    record {
      kind = kind;
      base = base;
      base_len = n;
      series = replicate series_most (pos 0);
      series_len = 0;
      status = 0;
      open_verdict = 0;
    }

-- the same chart with this status and this open verdict
unfoldable pub with_status : Chart → ℕ → ℕ → Chart
with_status c status open_verdict =
    record {
      kind = c.kind;
      base = c.base;
      base_len = c.base_len;
      series = c.series;
      series_len = c.series_len;
      status = status;
      open_verdict = open_verdict;
    }

-- "a refused build or read gives a chart of zeros"
unfoldable pub zero_chart : Chart
zero_chart = fresh_chart 0 (replicate base_most (pos 0)) 0

-- l are the limits that the state's words are judged by
pub record LimitsFor (s : State) (l : Limits) : Type 0 where
  pub same : limits_say l ≡ limits_for s

-- a build that is refused
abbrev pub not_built : Refusal → Called Counts
not_built r = record { chart = zero_chart; answer = Err r }

-- what the cases of building's answer say, for the chart c that comes with the answer and refusals of any type that has numbers
abbrev pub build_says_by : {R : Type 0} → (R → ℕ) → Chart → Result Counts R → Outcome BuiltState
build_says_by number_of c (Ok counts) = given (record { state = state_of c; rounds = counts.rounds; removed = counts.removed })
build_says_by number_of c (Err r) = refused (number_of r)

-- the same for what building gives
unfoldable pub build_says : Chart → Result Counts Refusal → Outcome BuiltState
build_says c r = build_says_by refusal_number c r

-- the chart that goes with building's answer
unfoldable pub chart_after : Outcome BuiltState → Chart
chart_after (given b) = chart_of b.state
chart_after (refused n) = zero_chart

-- the contract of building: its chart and its answer are the paper's
pub record Builds (kind : ℕ) (words : List ℤ) (r : Called Counts) : Type 0 where
  pub chart : r.chart ≡ chart_after (building kind words)
  pub says : build_says r.chart r.answer ≡ building kind words

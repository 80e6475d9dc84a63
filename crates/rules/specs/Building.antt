-- Document 01, "Base, limits, rejection", and document 02, Q-4: what building answers.
use Rattle.std.specs.Prelude.{Bool, ◌&&◌, List, ℕ, length, leb, ℤ}
use Rattle.rules.specs.Choice.{require}
use Rattle.rules.specs.Outcome.{Outcome, given, refused, unless_number}
use Rattle.rules.specs.Sizes.{base_wanted, base_most}
use Rattle.rules.specs.AllOf.{all_of}
use Rattle.rules.specs.Kind.{is_kind, in_range}
use Rattle.rules.specs.Rejection.{RejectionAnswer, rejection}
use Rattle.rules.specs.Standing.{fifteen_stand}
use Rattle.rules.specs.State.{State, fresh}

-- building takes this number of words: "15..32 words"
unfoldable pub is_build_count : List ℤ → Bool
is_build_count words = leb base_wanted (length words) && leb (length words) base_most

-- every word is in the kind's range
unfoldable pub all_in_range : ℕ → List ℤ → Bool
all_in_range kind words = all_of (in_range kind) words

-- "Building answers the chart, the rounds and the number removed". The "chart of zeros" of a refused build is a value of the program's
-- type: `chart/specs/Chart` defines it
pub record BuiltState : Type 0 where
  pub state : State
  pub rounds : ℕ
  pub removed : ℕ

-- a fresh chart with the base that rejection leaves. It is the machine's "start after building: the chart kind given, the base that
-- rejection leaves of the words given, an empty series, status 0, open verdict 0"
abbrev pub built_from : ℕ → RejectionAnswer → BuiltState
built_from kind r = record { state = fresh kind r.base; rounds = r.rounds; removed = r.removed }

-- the refusals that kind and words decide before rejection: "the first number that applies", or 0 if none does. 1 "kind not 1..3", 2 "not
-- 15..32 words", 3 "a word out of range"
unfoldable pub build_refusal : ℕ → List ℤ → ℕ
build_refusal kind words =
    require (is_kind kind) 1
    (require (is_build_count words) 2
    (require (all_in_range kind words) 3
    0))

-- document 02, Q-4: "Building is refused if fewer than 15 stand at the end." The number is 16, "after 3 in building"
unfoldable pub building : ℕ → List ℤ → Outcome BuiltState
building kind words =
    unless_number (build_refusal kind words)
    (require (fifteen_stand kind words) (refused 16)
    (given (built_from kind (rejection kind words))))

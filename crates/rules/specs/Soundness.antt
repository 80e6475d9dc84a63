-- Document 01, "Stored form": when a chart is sound. The condition "unused places hold 0" is about the program's chart:
-- `chart/specs/Soundness` states it.
use Rattle.std.specs.Prelude.{Bool, ◌&&◌, List, ℕ, length, leb, eqb, ℤ}
use Rattle.rules.specs.Choice.{choose}
use Rattle.rules.specs.Sizes.{base_least, base_most, series_most}
use Rattle.rules.specs.AllOf.{none_of}
use Rattle.rules.specs.Kind.{is_kind}
use Rattle.rules.specs.Limits.{Limits, beyond_control}
use Rattle.rules.specs.LastWords.{but_last}
use Rattle.rules.specs.State.{State, limits_for}
use Rattle.rules.specs.Building.{all_in_range}
use Rattle.rules.specs.Verdict.{verdict}

-- "the base has 10..32 words and the series 0..366"
unfoldable pub are_counts : ℕ → ℕ → Bool
are_counts base_count series_count = (leb base_least base_count && leb base_count base_most) && leb series_count series_most

-- "chart kind is 1..3; the base has 10..32 words and the series 0..366; the words are in range"
unfoldable pub words_sound : ℕ → List ℤ → List ℤ → Bool
words_sound kind base series =
    is_kind kind && (are_counts (length base) (length series) && (all_in_range kind base && all_in_range kind series))

-- the words of the series that must not be beyond a control limit: all, "save the last while status is not 0"
unfoldable pub held_within : ℕ → List ℤ → List ℤ
held_within status series = choose (eqb status 0) series (but_last series)

-- "no base word is beyond the base's own control limits; no series word is, save the last while status is not 0"
unfoldable pub limits_hold : Limits → List ℤ → List ℤ → ℕ → Bool
limits_hold limits base series status =
    none_of (beyond_control limits) base && none_of (beyond_control limits) (held_within status series)

-- "status 1 or 2 with a series that is not empty and a verdict 1..4 that posting the last word after those before it would give". So a
-- state that is open under 3 where 4 applies is not sound, and reading refuses it. Document 02, Q-1: "A chart stored open under verdict 3
-- where 4 applies is refused with 14."
unfoldable pub open_fits : Limits → List ℤ → ℕ → ℕ → Bool
open_fits limits series status open_verdict =
    (leb 1 status && leb status 2)
    && (leb 1 (length series)
    && ((leb 1 open_verdict && leb open_verdict 4)
    && eqb open_verdict (verdict limits series)))

-- "status 0 goes with verdict 0", and status 1 or 2 goes with an open verdict as above. No other status is sound
unfoldable pub status_fits : Limits → List ℤ → ℕ → ℕ → Bool
status_fits limits series status open_verdict = choose (eqb status 0) (eqb open_verdict 0) (open_fits limits series status open_verdict)

unfoldable pub sound : State → Bool
sound s =
    words_sound s.kind s.base s.series
    && (limits_hold (limits_for s) s.base s.series s.status
    && status_fits (limits_for s) s.series s.status s.open_verdict)

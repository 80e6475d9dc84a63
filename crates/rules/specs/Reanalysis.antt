-- Document 01, "Reanalysis": whether a word passes in place of the last word of a series, by the open verdict.
use Rattle.std.specs.Prelude.{Bool, true, ◌&&◌, ◌||◌, not, List, ℕ, eqb, ℤ}
use Rattle.std.specs.Int.Signed.{lt_z}
use Rattle.rules.specs.Choice.{choose}
use Rattle.rules.specs.Limits.{Limits, above_mean, below_mean, near_mean, beyond_control, beyond_warning}
use Rattle.rules.specs.LastWords.{one_before_last}
use Rattle.rules.specs.Verdict.{rising, falling, run_above, run_below}

-- "in a rising (falling) run, the word is below (above) the one before the last"
unfoldable pub turns_back : List ℤ → ℤ → Bool
turns_back series w =
    (rising series && lt_z w (one_before_last series)) || (falling series && lt_z (one_before_last series) w)

-- the word is strictly on the run's side of the mean
unfoldable pub on_runs_side : Limits → List ℤ → ℤ → Bool
on_runs_side limits series w =
    (run_above limits series && above_mean limits.sums w) || (run_below limits series && below_mean limits.sums w)

-- for verdict 2: "not beyond a warning limit", on either side
unfoldable pub passes_warning : Limits → ℤ → Bool
passes_warning limits w = not (beyond_warning limits w)

-- for verdict 3: "|word − mean| < S or, in a rising (falling) run, the word is below (above) the one before the last"
unfoldable pub passes_trend : Limits → List ℤ → ℤ → Bool
passes_trend limits series w = near_mean limits.sums w || turns_back series w

-- for verdict 4: "|word − mean| < S or the word is not strictly on the run's side"
unfoldable pub passes_side : Limits → List ℤ → ℤ → Bool
passes_side limits series w = near_mean limits.sums w || not (on_runs_side limits series w)

-- what the open verdict asks besides the control limits. Verdict 1 asks nothing more. Neither does 0 or a number above 4, but in a sound
-- chart these do not go with status 1
unfoldable pub passes_verdict : Limits → ℕ → List ℤ → ℤ → Bool
passes_verdict limits open_verdict series w =
    choose (eqb open_verdict 2) (passes_warning limits w)
    (choose (eqb open_verdict 3) (passes_trend limits series w)
    (choose (eqb open_verdict 4) (passes_side limits series w)
    true))

-- Reanalysis "passes if its word is not beyond a control limit and", by verdict, the rest. The series is the one before the reanalysis. Its
-- last word is the one that the reanalysis would replace
unfoldable pub passes : Limits → ℕ → List ℤ → ℤ → Bool
passes limits open_verdict series w = not (beyond_control limits w) && passes_verdict limits open_verdict series w

-- What the structs of judging say about words.
use Rattle.std.specs.Prelude.{◌≡◌, List, ℤ}
use Rattle.rules.specs.Limits.{Limits, above_mean, below_mean}
use Rattle.rules.specs.AllOf.{all_of}
use Rattle.rules.specs.Verdict.{each_next, rises, falls, rising, falling, run_above, run_below}
use Rattle.limits.specs.declared.Side.{Side}
use Rattle.judging.specs.declared.verdict.Trend.{Trend}

-- r says whether the words rise strictly, and whether they fall strictly
pub record AreOrders (words : List ℤ) (r : Trend) : Type 0 where
  pub rising : r.rising ≡ each_next rises words
  pub falling : r.falling ≡ each_next falls words

-- the same for the last seven words of a series. With fewer than seven, neither
pub record IsTrend (series : List ℤ) (r : Trend) : Type 0 where
  pub rising : r.rising ≡ rising series
  pub falling : r.falling ≡ falling series

-- r says whether all words are strictly above the mean, and whether all are strictly below it
pub record AreSides (limits : Limits) (words : List ℤ) (r : Side) : Type 0 where
  pub above : r.above ≡ all_of (above_mean limits.sums) words
  pub below : r.below ≡ all_of (below_mean limits.sums) words

-- the same for the last seven words of a series. With fewer than seven, neither
pub record IsRunSide (limits : Limits) (series : List ℤ) (r : Side) : Type 0 where
  pub above : r.above ≡ run_above limits series
  pub below : r.below ≡ run_below limits series

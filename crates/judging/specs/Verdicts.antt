-- The numbers of the verdicts.
use Rattle.std.specs.Prelude.{ℕ}
use Rattle.judging.specs.declared.verdicts.Verdict.{Verdict}
use Rattle.judging.specs.declared.verdicts.Verdict.TheVariants as case

-- document 01, "Post": 0 to 4
unfoldable pub verdict_number : Verdict → ℕ
verdict_number case.Fits = 0
verdict_number case.BeyondControl = 1
verdict_number case.BeyondWarning = 2
verdict_number case.Trend = 3
verdict_number case.OneSide = 4

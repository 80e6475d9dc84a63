-- Document 01, "Post", and document 02, Q-1: the verdict on the last word of a series. It depends on the limits and the series alone.
use Rattle.std.specs.Prelude.{◌≡◌, Bool, true, false, ◌&&◌, ◌||◌, List, [], ◌∷◌, ℕ, length, leb, eqb, ℤ}
use Rattle.std.specs.Int.Signed.{lt_z}
use Rattle.rules.specs.Choice.{choose}
use Rattle.rules.specs.AllOf.{all_of}
use Rattle.rules.specs.Kind.{judges_side}
use Rattle.rules.specs.Limits.{Limits, above_mean, below_mean, beyond_control, beyond_upper_warning, beyond_lower_warning}
use Rattle.rules.specs.LastWords.{last_words, last_word, one_before_last}

-- the order holds from each word to the next
unfoldable pub each_next : (ℤ → ℤ → Bool) → List ℤ → Bool
each_next order [] = true
each_next order (w ∷ []) = true
each_next order (w ∷ (next ∷ ws)) = order w next && each_next order (next ∷ ws)

-- "rise strictly", "fall strictly", from one word to the next
abbrev pub rises : ℤ → ℤ → Bool
rises w next = lt_z w next

abbrev pub falls : ℤ → ℤ → Bool
falls w next = lt_z next w

-- ---- runs: "the last seven words of the series (with fewer, never)". "The guide's six points follow the turning point, which is the first
-- of the seven."

abbrev pub run_length : ℕ
run_length = 7

-- the series has at least seven words, and the last seven pass the test `so`
unfoldable pub is_run : (List ℤ → Bool) → List ℤ → Bool
is_run so series = leb run_length (length series) && so (last_words run_length series)

unfoldable pub rising : List ℤ → Bool
rising series = is_run (each_next rises) series

unfoldable pub falling : List ℤ → Bool
falling series = is_run (each_next falls) series

unfoldable pub run_above : Limits → List ℤ → Bool
run_above limits series = is_run (all_of (above_mean limits.sums)) series

unfoldable pub run_below : Limits → List ℤ → Bool
run_below limits series = is_run (all_of (below_mean limits.sums)) series

-- ---- the four tests of the last word of a series

-- 1: "beyond a control limit"
unfoldable pub control_test : Limits → List ℤ → Bool
control_test limits series = leb 1 (length series) && beyond_control limits (last_word series)

-- 2: "this word and the one before it in the series (never for the first) are beyond the warning limit on the same side"
unfoldable pub warning_test : Limits → List ℤ → Bool
warning_test limits series =
    leb 2 (length series)
    && ((beyond_upper_warning limits (one_before_last series) && beyond_upper_warning limits (last_word series))
    || (beyond_lower_warning limits (one_before_last series) && beyond_lower_warning limits (last_word series)))

-- 3: "the last seven words of the series (with fewer, never) rise strictly, or fall strictly"
unfoldable pub trend_test : List ℤ → Bool
trend_test series = rising series || falling series

-- 4: "kinds 2 and 3 only; the last seven words of the series (with fewer, never) are all strictly above or all strictly below the mean"
unfoldable pub side_test : Limits → List ℤ → Bool
side_test limits series = judges_side limits.kind && (run_above limits series || run_below limits series)

-- ---- the verdict

-- the verdict of the first test that holds, or 0 if none does. Each test stands with its verdict
unfoldable pub first_verdict : List (Bool × ℕ) → ℕ
first_verdict [] = 0
first_verdict (test ∷ tests) = choose test.0 test.1 (first_verdict tests)

-- Document 01 asks for "the lowest that applies", and for 0 if "none of these" does. Document 02, Q-1, changes this for 3 and 4: "Where
-- both apply, 4 is now answered and 3 is not; 1 and 2 still come before them." So the tests stand in the order 1, 2, 4, 3. "Judging uses
-- chart kind, base and series only": the limits hold what it uses of kind and base
unfoldable pub verdict : Limits → List ℤ → ℕ
verdict limits series =
    first_verdict
    ((control_test limits series, 1)
    ∷ (warning_test limits series, 2)
    ∷ (side_test limits series, 4)
    ∷ (trend_test series, 3)
    ∷ [])

-- the order, as a property of the verdict v. `proofs/Verdict` proves that `verdict` has it (`verdict_is`) and that no other number has
-- (`verdict-only`)
pub record IsVerdict (limits : Limits) (series : List ℤ) (v : ℕ) : Type 0 where
  pub control : control_test limits series ≡ true → v ≡ 1
  pub warning : control_test limits series ≡ false → warning_test limits series ≡ true → v ≡ 2
  pub side : control_test limits series ≡ false → warning_test limits series ≡ false → side_test limits series ≡ true → v ≡ 4
  pub trend : control_test limits series ≡ false → warning_test limits series ≡ false → side_test limits series ≡ false
      → trend_test series ≡ true → v ≡ 3
  pub none : control_test limits series ≡ false → warning_test limits series ≡ false → side_test limits series ≡ false
      → trend_test series ≡ false → v ≡ 0

-- "Verdicts 1..3 set status 1, verdict 4 sets status 2." A word with verdict 0 leaves the chart free
unfoldable pub status_for : ℕ → ℕ
status_for v = choose (eqb v 0) 0 (choose (eqb v 4) 2 1)

-- Laws of the verdict. It goes by the order 1, 2, 4, 3 (`verdict_is`), and no other number does (`verdict-only`). All other laws follow
-- from this: document 02, Q-1 (`side_before_trend`, `trend_not_sided`); it is at most 4, and at most 3 on a chart of kind 1; if it is 0,
-- the last word is not beyond a control limit. Then the status that it sets.
use mathlib.Core.Path.{◌≡◌, refl, sym, ◌∙◌}
use mathlib.Core.Bool.{false, true, false≢true}
use mathlib.Core.List.{List, [], ◌∷◌, ◌++◌}
use Prim.Native.Nat.{ℕ, ◌≤◌}
use native.Mathlib.Omega.{arith}
use lib.ListN.{length}
use lib.Dec.{leb, eqb}
use lib.IntN.{ℤ}
use borrow.Author.Tests.{le-leb, ne_eqb}
use Rattle.rules.specs.Limits.{Limits, beyond_control}
use Rattle.rules.specs.Kind.{judges_side}
use Rattle.rules.specs.Verdict.{control_test, warning_test, side_test, trend_test, first_verdict, verdict, IsVerdict, status_for}
use Rattle.rules.proofs.Booleans.{by_test}
use Rattle.rules.proofs.LastWords.{length_added, last_word_added}

-- ---- the order of the four tests

module _ (limits : Limits) (series : List ℤ) where
  pub verdict_is : IsVerdict limits series (verdict limits series)
  unfolding verdict first_verdict
  verdict_is =
      record {
        control = λ c. rw c;
        warning = λ c w. rw (c, w);
        side = λ c w s. rw (c, w, s);
        trend = λ c w s t. rw (c, w, s, t);
        none = λ c w s t. rw (c, w, s, t);
      }

  -- what holds of the number in each case of the order holds of the verdict
  pub verdict_ind : (P : ℕ → Type 0) → (control_test limits series ≡ true → P 1)
      → (control_test limits series ≡ false → warning_test limits series ≡ true → P 2)
      → (control_test limits series ≡ false → warning_test limits series ≡ false → side_test limits series ≡ true → P 4)
      → (control_test limits series ≡ false → warning_test limits series ≡ false → side_test limits series ≡ false
      → trend_test series ≡ true → P 3)
      → (control_test limits series ≡ false → warning_test limits series ≡ false → side_test limits series ≡ false
      → trend_test series ≡ false → P 0)
      → P (verdict limits series)
  verdict_ind P control warning side trend none =
      by_test (control_test limits series) (λ c. rw (verdict_is.control c) (control c))
      (λ c. by_test (warning_test limits series) (λ w. rw (verdict_is.warning c w) (warning c w))
      (λ w. by_test (side_test limits series) (λ s. rw (verdict_is.side c w s) (side c w s))
      (λ s. by_test (trend_test series) (λ t. rw (verdict_is.trend c w s t) (trend c w s t))
      (λ t. rw (verdict_is.none c w s t) (none c w s t)))))

  -- a number that has the property is the verdict
  pub verdict-only : (v : ℕ) → IsVerdict limits series v → v ≡ verdict limits series
  verdict-only v is = verdict_ind (λ r. v ≡ r) is.control is.warning is.side is.trend is.none

  -- document 02, Q-1: where 4 applies, and 1 and 2 do not, the verdict is 4, also if 3 applies
  pub side_before_trend : control_test limits series ≡ false → warning_test limits series ≡ false → side_test limits series ≡ true
      → verdict limits series ≡ 4
  side_before_trend = verdict_is.side

  -- so where the verdict is 3, 4 does not apply
  pub trend_not_sided : verdict limits series ≡ 3 → side_test limits series ≡ false
  trend_not_sided =
      verdict_ind (λ r. r ≡ 3 → side_test limits series ≡ false)
      (λ c h. absurd (omega arith)) (λ c w h. absurd (omega arith)) (λ c w s h. absurd (omega arith)) (λ c w s t h. s) (λ c w s t h. s)

  -- the greatest verdict is 4
  pub verdict_at_most_four : verdict limits series ≤ 4
  verdict_at_most_four =
      verdict_ind (λ r. r ≤ 4)
      (λ c. omega arith) (λ c w. omega arith) (λ c w s. omega arith) (λ c w s t. omega arith) (λ c w s t. omega arith)

  -- 4 is for "kinds 2 and 3 only"
  pub no_side_for_kind_1 : limits.kind ≡ 1 → side_test limits series ≡ false
  unfolding side_test judges_side
  no_side_for_kind_1 k = rw k

  -- so on a chart of kind 1 the verdict is at most 3
  pub kind_1_at_most_three : limits.kind ≡ 1 → verdict limits series ≤ 3
  kind_1_at_most_three k =
      verdict_ind (λ r. r ≤ 3)
      (λ c. omega arith) (λ c w. omega arith)
      (λ c w s. absurd (false≢true (sym (no_side_for_kind_1 k) ∙ s)))
      (λ c w s t. omega arith) (λ c w s t. omega arith)

-- ---- a verdict of 0

-- if the verdict is 0, the control test, which is the first of the four, failed for the added word
pub no_verdict-within : (limits : Limits) (series : List ℤ) (w : ℤ)
    → verdict limits (series ++ (w ∷ [])) ≡ 0 → beyond_control limits w ≡ false
unfolding control_test
no_verdict-within limits series w h =
    let words = series ++ (w ∷ []) in
    by_test (control_test limits words) (λ t. absurd (omega (arith, h, (verdict_is limits words).control t)))
    (λ t.
    let some : leb 1 (length words) ≡ true = le-leb 1 (length words) (omega (arith, length_added series w)) in
    rw (some, last_word_added series w) at t)

-- ---- the status that a verdict sets

-- verdict 0 leaves the chart free
pub status_for_none : status_for 0 ≡ 0
unfolding status_for
status_for_none = refl

-- any other verdict sets 1 or 2
pub status_for_some : (v : ℕ) → 1 ≤ v → (1 ≤ status_for v) × (status_for v ≤ 2)
unfolding status_for
status_for_some v h =
    rw (ne_eqb v 0 (λ e. omega arith))
    (by_test (eqb v 4) (λ t. rw t (omega arith)) (λ t. rw t (omega arith)))

-- The contract of `round` is over sums that are not those of the words: document 02, Q-5. A round may be given ten words 0 and one of 100
-- with (30; 100, 10000), and then hands on (29; 0, 0). A round that sums afresh would hand on (10; 0, 0).
use mathlib.Core.Path.{◌≡◌, refl, ap, ◌∙◌}
use mathlib.Core.List.{[], ◌∷◌}
use native.Mathlib.Omega.{arith}
use lib.IntN.{pos}
use Rattle.rules.specs.Kind.{has_lower}
use Rattle.rules.specs.Limits as rules
use Rattle.rules.specs.Limits.{sum_of, sum_of_squares, sums_of, sum_by, v_of, scaled_deviation, exceeds, above_mean, below_mean, above, below}
use Rattle.rules.specs.Limits.{beyond_upper, beyond_lower, beyond, beyond_control}
use Rattle.rules.specs.Carried.{only, less_words, beyond_given, removed_words, handed_on}
use Rattle.rules.specs.Figures.{with_other_sums}
use Rattle.limits.specs.declared.Sums.{Sums}
use Rattle.limits.specs.Sums.{sums_say, AreSums, Removable}
use Rattle.chart.specs.declared.rejection.HandedOn.{HandedOn}
use Rattle.chart.specs.Rejection.{given_says, CanRemove, HandsOn}

abbrev others : Sums
others = record { n = 30; t = pos 100; q = 10000 }

same_as_figure : given_says with_other_sums.words others ≡ with_other_sums
same_as_figure = refl

pub not_own : AreSums with_other_sums.words others → ⊥
unfolding sums_of
not_own h = absurd (omega (arith, ap (λ (x : rules.Sums). x.n) h.same))

removes_100 : removed_words 1 with_other_sums ≡ pos 100 ∷ []
unfolding removed_words only beyond_given beyond_control beyond beyond_upper beyond_lower above below above_mean below_mean exceeds scaled_deviation
    v_of has_lower
removes_100 = refl

removable_100 : Removable (pos 100 ∷ []) others
unfolding sum_by
removable_100 = record { count = omega arith; squares = omega arith; sum = omega arith }

-- the `requires` of `round` admits these sums
pub admitted : CanRemove 1 with_other_sums.words others
admitted =
    record {
      bounded = record { few = omega arith; squares = omega arith; v = omega arith };
      removable = rw removes_100 removable_100;
    }

-- its `ensures` asks for the sums given less 100
pub hands_on_others : (r : HandedOn) → HandsOn 1 with_other_sums r → sums_say r.sums ≡ record { n = 29; t = pos 0; q = pos 0 }
unfolding handed_on less_words sum_of sum_of_squares
hands_on_others r h = h.sums ∙ rw removes_100 refl

-- The starred figures: what the definitions give is what the course says, in every row.
use mathlib.Core.Path.{◌≡◌, refl}
use mathlib.Core.List.{map}
use lib.Ieee.{climb, size, odd}
use Rattle.rules.specs.AllOf.{all_of, none_of}
use Rattle.rules.specs.Kind.{is_kind, ignores_third, word_least, in_range, has_lower, judges_side}
use Rattle.rules.specs.Word.{is_reading, are_readings, numerator, divisor, nearest_natural, nearest, rounded_quotient, from_reading}
use Rattle.rules.specs.Word.{word_alone}
use Rattle.rules.specs.Limits.{sum_of, sum_of_squares, sums_of, v_of, scaled_deviation, exceeds, above, below, limits_of, beyond_upper}
use Rattle.rules.specs.Limits.{within, above_mean, below_mean, near_mean, beyond_lower, beyond, beyond_control, beyond_warning}
use Rattle.rules.specs.Limits.{beyond_upper_control, beyond_lower_control, beyond_upper_warning, beyond_lower_warning}
use Rattle.rules.specs.Rejection.{without, after_round, rejection_within, rejection}
use Rattle.rules.specs.Carried.{only, less_words, beyond_given, removed_words, handed_on, with_own_sums, in_rounds, given_to_rounds}
use Rattle.rules.specs.Standing.{number_standing, fifteen_stand}
use Rattle.rules.specs.LastWords.{last_words, but_last, last_word, one_before_last}
use Rattle.rules.specs.Tail.{tail_from, shortest_tail}
use Rattle.rules.specs.State.{fresh, limits_for, add_word, replace_last, set_status}
use Rattle.rules.specs.Building.{is_build_count, all_in_range, build_refusal, building}
use Rattle.rules.specs.Verdict.{each_next, is_run, rising, falling, run_above, run_below, control_test, warning_test, trend_test}
use Rattle.rules.specs.Verdict.{side_test, first_verdict, verdict, status_for}
use Rattle.rules.specs.Reanalysis.{turns_back, passes_trend, passes_verdict, passes}
use Rattle.rules.specs.Soundness.{are_counts, words_sound, held_within, limits_hold, status_fits, sound}
use Rattle.rules.specs.Machine.{post_refusal, reanalysis_refusal, renewal_refusal, word_for, posting, after_reanalysis, reanalysing}
use Rattle.rules.specs.Machine.{renewing, step, answers}
use Rattle.rules.specs.Bytes.{bytes_of, number_in, numbers_in, number_of, word_of}
use Rattle.rules.specs.StoredForm.{record_of, head_numbers, stored_form}
use Rattle.rules.specs.ReadForm.{length_in, record_kind_in, count_in, record_numbers, after_record, is_record, starts_with, from_base}
use Rattle.rules.specs.ReadForm.{from_series, is_form, held_in, reading}
use Rattle.rules.specs.SquareRoot.{root_within, square_root}
use Rattle.rules.specs.Double.{double_of, parts_in}
use Rattle.rules.specs.Lines.{quotient_down, quotient_up, greatest_deviation, upper_line, lower_line, mean_line}
use Rattle.rules.specs.ChartLines.{lines_of}
use Rattle.rules.specs.Figures.{Row, table}

pub figures_hold : map (λ (r : Row). r.defined) table ≡ map (λ (r : Row). r.figure) table
unfolding table is_kind ignores_third word_least in_range has_lower judges_side is_reading are_readings numerator divisor nearest_natural nearest
    rounded_quotient from_reading word_alone sum_of sum_of_squares sums_of v_of scaled_deviation exceeds within above_mean below_mean near_mean
    above below limits_of beyond_upper beyond_lower beyond beyond_control beyond_warning beyond_upper_control beyond_lower_control
    beyond_upper_warning beyond_lower_warning without after_round
    rejection_within rejection only less_words beyond_given removed_words handed_on with_own_sums in_rounds given_to_rounds
    number_standing fifteen_stand last_words but_last last_word one_before_last tail_from shortest_tail
    fresh limits_for add_word replace_last set_status is_build_count all_in_range
    build_refusal building all_of none_of each_next is_run rising falling run_above run_below control_test warning_test trend_test side_test
    first_verdict verdict status_for
    turns_back passes_trend passes_verdict passes post_refusal reanalysis_refusal renewal_refusal word_for posting after_reanalysis reanalysing
    renewing step answers are_counts words_sound held_within limits_hold status_fits sound bytes_of number_in numbers_in number_of word_of
    record_of head_numbers stored_form length_in record_kind_in count_in record_numbers after_record is_record starts_with from_base from_series
    is_form held_in reading
    size climb odd root_within square_root double_of parts_in quotient_down quotient_up greatest_deviation upper_line lower_line mean_line lines_of
figures_hold = refl

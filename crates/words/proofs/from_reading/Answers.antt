-- `words::from_reading` meets its contract.
use mathlib.Core.Path.{◌≡◌, sym, ◌∙◌}
use mathlib.Core.Bool.{true}
use borrow.Author.Tests.{eq-eqb, ne_eqb}
use mir.Syntax.{w16, w64}
use mir.Val.{SFits}
use mir.Facts.{to_z-of_z}
use Rattle.rules.specs.Outcome.{given, refused}
use Rattle.rules.specs.Choice.{require}
use Rattle.rules.specs.Kind.{in_range}
use Rattle.rules.specs.Word.{are_readings, rounded_quotient, from_reading}
use Rattle.words.specs.Formed.{IsQuotient}
use Rattle.refusals.specs.Refusal.{result_says, refusal_number}
use Rattle.rules.proofs.Booleans.{answered_no, answered_yes}
use Rattle.rules.proofs.Kind.{in_range_fits}
use Rattle.words.proofs.Readings.{numerator_is}
use Rattle.words.proofs.from_reading.Goals as goal

pub returns-then-not-are_readings : goal.returns-then-not-are_readings
unfolding result_says refusal_number from_reading
returns-then-not-are_readings c =
    let readings_tested : c.are_readings.result ≡ are_readings c.args.kind c.args.a c.args.b c.args.c =
    let fits = c.ranges in rw (to_z-of_z fits.a, to_z-of_z fits.b, to_z-of_z fits.c) at c.are_readings.ensures in
    rw (answered_no readings_tested c.if-not-are_readings.true)

pub quotient_of-q-requires : goal.quotient_of-q-requires
quotient_of-q-requires c =
    answered_yes c.are_readings.ensures c.if-not-are_readings.false

pub returns-then-q-eq0 : goal.returns-then-q-eq0
unfolding result_says refusal_number from_reading
returns-then-q-eq0 c =
    let readings_tested : c.are_readings.result ≡ are_readings c.args.kind c.args.a c.args.b c.args.c =
    let fits = c.ranges in rw (to_z-of_z fits.a, to_z-of_z fits.b, to_z-of_z fits.c) at c.are_readings.ensures in
    let readings_hold : are_readings c.args.kind c.args.a c.args.b c.args.c ≡ true =
    answered_yes readings_tested c.if-not-are_readings.false in
    let is_quotient : IsQuotient c.args.kind c.args.a c.args.b c.args.c c.quotient_of-q.result =
    let fits = c.ranges in rw (to_z-of_z fits.a, to_z-of_z fits.b, to_z-of_z fits.c) at c.quotient_of-q.ensures in
    rw (readings_hold, ← is_quotient.is_divisor, eq-eqb c.quotient_of-q.result.divisor 0 c.if-q-eq0.true)

pub returns-then-not-in_range : goal.returns-then-not-in_range
unfolding result_says refusal_number from_reading rounded_quotient
returns-then-not-in_range c =
    let readings_tested : c.are_readings.result ≡ are_readings c.args.kind c.args.a c.args.b c.args.c =
    let fits = c.ranges in rw (to_z-of_z fits.a, to_z-of_z fits.b, to_z-of_z fits.c) at c.are_readings.ensures in
    let readings_hold : are_readings c.args.kind c.args.a c.args.b c.args.c ≡ true =
    answered_yes readings_tested c.if-not-are_readings.false in
    let is_quotient : IsQuotient c.args.kind c.args.a c.args.b c.args.c c.quotient_of-q.result =
    let fits = c.ranges in rw (to_z-of_z fits.a, to_z-of_z fits.b, to_z-of_z fits.c) at c.quotient_of-q.ensures in
    let word_fits : SFits w64 c.nearest-w.result = record { sfits = c.nearest-w.type_inv } in
    let range_tested : c.in_range.result ≡ in_range c.args.kind c.nearest-w.result = rw (to_z-of_z word_fits) at c.in_range.ensures in
    let answer : from_reading c.args.kind c.args.a c.args.b c.args.c ≡ require c.in_range.result (refused 7) (given c.nearest-w.result) =
    let is = is_quotient in let args = c.args in rw (
      readings_hold,
      ← is.is_divisor,
      ne_eqb c.quotient_of-q.result.divisor 0
          c.if-q-eq0.false,
      ← numerator_is args.kind args.a args.b args.c c.quotient_of-q.result is,
      ← c.nearest-w.ensures,
      ← range_tested,
    ) in
    rw (answer, c.if-not-in_range.true)

pub overflow_cast-result : goal.overflow_cast-result
overflow_cast-result c =
    let word_fits : SFits w64 c.nearest-w.result = record { sfits = c.nearest-w.type_inv } in
    let range_tested : c.in_range.result ≡ in_range c.args.kind c.nearest-w.result = rw (to_z-of_z word_fits) at c.in_range.ensures in
    let in_range_lem : c.in_range.result ≡ true = c.if-not-in_range.false in
    let kept_word : SFits w16 c.nearest-w.result = in_range_fits c.args.kind c.nearest-w.result (sym range_tested ∙ in_range_lem) in
    rw (to_z-of_z word_fits) kept_word

pub returns : goal.returns
unfolding result_says refusal_number from_reading rounded_quotient
returns c =
    let readings_tested : c.are_readings.result ≡ are_readings c.args.kind c.args.a c.args.b c.args.c =
    let fits = c.ranges in rw (to_z-of_z fits.a, to_z-of_z fits.b, to_z-of_z fits.c) at c.are_readings.ensures in
    let readings_hold : are_readings c.args.kind c.args.a c.args.b c.args.c ≡ true =
    answered_yes readings_tested c.if-not-are_readings.false in
    let is_quotient : IsQuotient c.args.kind c.args.a c.args.b c.args.c c.quotient_of-q.result =
    let fits = c.ranges in rw (to_z-of_z fits.a, to_z-of_z fits.b, to_z-of_z fits.c) at c.quotient_of-q.ensures in
    let word_fits : SFits w64 c.nearest-w.result = record { sfits = c.nearest-w.type_inv } in
    let range_tested : c.in_range.result ≡ in_range c.args.kind c.nearest-w.result = rw (to_z-of_z word_fits) at c.in_range.ensures in
    let answer : from_reading c.args.kind c.args.a c.args.b c.args.c ≡ require c.in_range.result (refused 7) (given c.nearest-w.result) =
    let is = is_quotient in let args = c.args in rw (
      readings_hold,
      ← is.is_divisor,
      ne_eqb c.quotient_of-q.result.divisor 0
          c.if-q-eq0.false,
      ← numerator_is args.kind args.a args.b args.c c.quotient_of-q.result is,
      ← c.nearest-w.ensures,
      ← range_tested,
    ) in
    let in_range_lem : c.in_range.result ≡ true = c.if-not-in_range.false in
    let kept_word : SFits w16 c.nearest-w.result = in_range_fits c.args.kind c.nearest-w.result (sym range_tested ∙ in_range_lem) in
    rw (answer, in_range_lem, to_z-of_z word_fits, to_z-of_z kept_word)

-- `lines::parts_in` meets its contract.
use Rattle.std.proofs.Common.{◌≡◌, true, T, sym, subst, lit≤}
use lib.Ieee.{binary64, fits, of_bits, neg, of_int, round, size, units, odd}
use Rattle.lines.proofs.Doubles.{in_double}
use Rattle.lines.proofs.PartsHeld.{less_or_equal, held_between, held_low, held_high}
use Rattle.lines.proofs.parts_in.Goals as goal

pub int_to_float-parts : goal.int_to_float-parts
int_to_float-parts c = in_double _ (lit≤ tt)

pub truncating_f64_to_i64-requires : goal.truncating_f64_to_i64-requires
unfolding of_bits neg of_int round size units odd
truncating_f64_to_i64-requires c = record {
  lower_bound = less_or_equal _ _ c.if-parts.true;
  upper_bound = subst T (sym c.if-parts-2.true)
      tt;
}

pub returns-then-parts-2 : goal.returns-then-parts-2
unfolding of_bits neg of_int round size units odd
returns-then-parts-2 c =
    let line_fits : fits binary64 c.args.line ≡ true = c.well_formed.0.1 in
    held_between c.args.line line_fits _ c.if-parts.true c.if-parts-2.true c.truncating_f64_to_i64.ensures

pub returns-else-parts-2 : goal.returns-else-parts-2
unfolding of_bits neg of_int round size units odd
returns-else-parts-2 c =
    let line_fits : fits binary64 c.args.line ≡ true = c.well_formed.0.1 in
    held_high c.args.line line_fits c.if-parts-2.false

pub returns-else-parts : goal.returns-else-parts
unfolding of_bits neg of_int round size units odd
returns-else-parts c =
    let line_fits : fits binary64 c.args.line ≡ true = c.well_formed.0.1 in
    held_low c.args.line line_fits c.if-parts.false

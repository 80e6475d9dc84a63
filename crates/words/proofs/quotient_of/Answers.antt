-- `words::quotient_of` meets its contract.
use mathlib.Core.Path.{◌≡◌}
use native.Mathlib.Omega.{arith}
use Rattle.std.proofs.Common.{rules}
use borrow.Author.Tests.{ne_eqb}
use mir.Facts.{to_z-of_z}
use Rattle.rules.specs.Kind.{ignores_third}
use Rattle.words.specs.Formed.{ReadingIs}
use Rattle.words.proofs.Readings.{AllReadings, all_readings, duplicate_quotient, check_quotient, spike_quotient}
use Rattle.words.proofs.quotient_of.Goals as goal

pub reading-x-requires : goal.reading-x-requires
reading-x-requires c =
    let readings : AllReadings c.args.kind c.args.a c.args.b c.args.c = all_readings c.args.kind c.args.a c.args.b c.args.c c.requires in
    rw (to_z-of_z c.ranges.a) readings.first

pub reading-y-requires : goal.reading-y-requires
reading-y-requires c =
    let readings : AllReadings c.args.kind c.args.a c.args.b c.args.c = all_readings c.args.kind c.args.a c.args.b c.args.c c.requires in
    rw (to_z-of_z c.ranges.b) readings.second

pub returns-in-1 : goal.returns-in-1
returns-in-1 c =
    let first : ReadingIs c.args.a c.reading-x.result = rw (to_z-of_z c.ranges.a) at c.reading-x.ensures in
    let second : ReadingIs c.args.b c.reading-y.result = rw (to_z-of_z c.ranges.b) at c.reading-y.ensures in
    duplicate_quotient first second c.in-1.is c.abs_diff.ensures

pub returns-in-2 : goal.returns-in-2
returns-in-2 c =
    let first : ReadingIs c.args.a c.reading-x.result = rw (to_z-of_z c.ranges.a) at c.reading-x.ensures in
    let second : ReadingIs c.args.b c.reading-y.result = rw (to_z-of_z c.ranges.b) at c.reading-y.ensures in
    check_quotient first second (λ e. omega (arith, c.in-2.is)) c.in-2.is

pub reading-requires : goal.reading-requires
unfolding ignores_third
reading-requires c =
    let readings : AllReadings c.args.kind c.args.a c.args.b c.args.c = all_readings c.args.kind c.args.a c.args.b c.args.c c.requires in
    let not_one : c.args.kind ≡ 1 → ⊥ = search rules in
    let not_two : c.args.kind ≡ 2 → ⊥ = search rules in
    rw (to_z-of_z c.ranges.c) (rw (ne_eqb c.args.kind 1 not_one, ne_eqb c.args.kind 2 not_two) at readings.third)

pub returns-in_default : goal.returns-in_default
returns-in_default c =
    let first : ReadingIs c.args.a c.reading-x.result = rw (to_z-of_z c.ranges.a) at c.reading-x.ensures in
    let second : ReadingIs c.args.b c.reading-y.result = rw (to_z-of_z c.ranges.b) at c.reading-y.ensures in
    let not_one : c.args.kind ≡ 1 → ⊥ = search rules in
    let not_two : c.args.kind ≡ 2 → ⊥ = search rules in
    spike_quotient first second not_one not_two c.abs_diff-in_default.ensures (rw (to_z-of_z c.ranges.c) at c.reading.ensures)

-- `lines::parts::quotient_down` meets its contract: `!` of the quotient of `!z` if z is below 0, and the quotient of z otherwise.
use Rattle.std.proofs.Common.{◌-◌, nat_abs, arith, w64}
use Rattle.rules.proofs.Complement.{Complement, complement, Natural, natural}
use Rattle.lines.proofs.Quotients.{quotient_fits, complement_quotient, natural_quotient}
use Rattle.lines.proofs.parts.quotient_down.Goals as goal

pub overflow_cast-down : goal.overflow_cast-down
overflow_cast-down c =
    let below : Complement w64 c.args.z = complement w64 c.args.z c.ranges.z c.if-z-lt0.true in
    rw below.is (tt, omega (arith, below))

pub overflow_cast-result : goal.overflow_cast-result
overflow_cast-result c =
    let below : Complement w64 c.args.z = complement w64 c.args.z c.ranges.z c.if-z-lt0.true in
    rw below.is (quotient_fits (nat_abs c.args.z - 1) c.args.n (omega (arith, below)))

pub returns-then-z-lt0 : goal.returns-then-z-lt0
returns-then-z-lt0 c =
    let below : Complement w64 c.args.z = complement w64 c.args.z c.ranges.z c.if-z-lt0.true in
    rw below.is (complement_quotient c.args.z c.args.n c.ranges.z c.if-z-lt0.true)

pub overflow_cast-down-2 : goal.overflow_cast-down-2
overflow_cast-down-2 c =
    let not_below : Natural w64 c.args.z = natural w64 c.args.z c.ranges.z c.if-z-lt0.false in
    rw not_below.is (tt, omega (arith, not_below.fits))

pub overflow_cast-result-2 : goal.overflow_cast-result-2
overflow_cast-result-2 c =
    let not_below : Natural w64 c.args.z = natural w64 c.args.z c.ranges.z c.if-z-lt0.false in
    rw not_below.is (quotient_fits (nat_abs c.args.z) c.args.n not_below.fits)

pub returns : goal.returns
returns c =
    let not_below : Natural w64 c.args.z = natural w64 c.args.z c.ranges.z c.if-z-lt0.false in
    rw not_below.is (natural_quotient c.args.z c.args.n c.ranges.z c.if-z-lt0.false)

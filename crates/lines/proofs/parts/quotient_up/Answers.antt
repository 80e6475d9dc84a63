-- `lines::parts::quotient_up` meets its contract.
use Rattle.std.proofs.Common.{pos, ◌-ℤ◌, w64, to_z, of_z}
use Rattle.rules.specs.Lines.{quotient_up}
use Rattle.rules.proofs.Held.{Held}
use Rattle.lines.proofs.Quotients.{opposite, up_quotient}
use Rattle.lines.proofs.parts.quotient_up.Goals as goal

pub overflow_sub-z : goal.overflow_sub-z
overflow_sub-z c = let (small, some) = c.requires in (opposite c.args.z small).fits

pub overflow_sub-result : goal.overflow_sub-result
overflow_sub-result c =
    let quotient : let a = c.args in Held (pos 0 -ℤ to_z w64 (of_z w64 c.quotient_down.result)) (quotient_up a.z a.n) =
    let (small, some) = c.requires in up_quotient c.args.z c.quotient_down.result c.args.n small c.quotient_down.ensures in
    quotient.fits

pub returns : goal.returns
returns c =
    let quotient : let a = c.args in Held (pos 0 -ℤ to_z w64 (of_z w64 c.quotient_down.result)) (quotient_up a.z a.n) =
    let (small, some) = c.requires in up_quotient c.args.z c.quotient_down.result c.args.n small c.quotient_down.ensures in
    quotient.is

-- `lines::parts::deviation_parts` meets its contract.
use Rattle.std.proofs.Common.{◌∙◌, arith}
use Rattle.lines.proofs.Deviations.{nv_small, square_small, product_fits, deviation_is}
use Rattle.lines.proofs.parts.deviation_parts.Goals as goal

pub overflow_mul-multiple-2 : goal.overflow_mul-multiple-2
overflow_mul-multiple-2 c =
    let (few, has) = c.requires in
    omega (arith, square_small c.args.m few)

pub overflow_mul-n : goal.overflow_mul-n
overflow_mul-n c =
    let (few, has) = c.requires in
    omega (arith, nv_small c.args.s has c.v_of-v.result c.v_of-v.ensures)

pub overflow_mul-multiple-3 : goal.overflow_mul-multiple-3
overflow_mul-multiple-3 c =
    let (few, has) = c.requires in
    record { fits = product_fits c.args.s has c.v_of-v.result c.v_of-v.ensures c.args.m few }

pub returns : goal.returns
returns c =
    let v = c.v_of-v in
    c.square_root.ensures ∙ deviation_is c.args.m c.args.s v.result v.ensures

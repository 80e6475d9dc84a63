-- `parsing::numbers::kind_in_field` meets its contract.
use mathlib.Core.Path.{◌∙◌}
use Prim.Native.Nat.{◌<◌, ◌^◌}
use borrow.Author.Rules.{rules}
use lib.Signed.{mag}
use mir.Syntax.{w64}
use mir.Facts.{to_z-of_z}
use Rattle.parsing.proofs.Signed.{kind_held, fault_held}
use Rattle.parsing.proofs.numbers.kind_in_field.Goals as goal

pub returns-in-Ok : goal.returns-in-Ok
returns-in-Ok c =
    let small : mag c.in-Ok.z < 2 ^ 63 = search rules in
    rw c.in-Ok.is (c.unwrap_or.ensures ∙ kind_held c.in-Ok.z _ (rw (to_z-of_z {w = w64} (record { sfits = small })) at c.try_from.ensures))

pub returns-in-Err : goal.returns-in-Err
returns-in-Err c = rw c.in-Err.is (fault_held c.in-Err.field-0).0

-- `parsing::numbers::word_in_field` meets its contract.
use mathlib.Core.Path.{◌∙◌}
use Prim.Native.Nat.{◌<◌, ◌^◌}
use borrow.Author.Rules.{rules, sfits_of}
use lib.Signed.{mag}
use mir.Syntax.{w16, w64}
use mir.Facts.{to_z-of_z}
use Rattle.parsing.proofs.Signed.{word_held, fault_held}
use Rattle.parsing.proofs.numbers.word_in_field.Goals as goal

pub returns-in-Ok : goal.returns-in-Ok
returns-in-Ok c =
    let small : mag c.in-Ok.z < 2 ^ 63 = search rules in
    let word = word_held c.in-Ok.z _ (rw (to_z-of_z {w = w64} (record { sfits = small })) at c.try_from.ensures) in
    rw (c.in-Ok.is, to_z-of_z {w = w16} (sfits_of c.unwrap_or.type_inv)) (c.unwrap_or.ensures ∙ word)

pub returns-in-Err : goal.returns-in-Err
returns-in-Err c = rw c.in-Err.is (fault_held c.in-Err.field-0).1

-- `commands::answer` meets its contract.
use mathlib.Core.Path.{◌≡◌}
use Prim.Native.Nat.{◌<◌}
use lib.ListN.{length}
use borrow.Author.Tests.{eq-eqb, ne_eqb}
use Rattle.std.proofs.Common.{rules, tests}
use Rattle.commands.proofs.Lines.{too_long, no_field_found, comment_found_first, nothing_said, a_fault, without_fault, line_fed}
use Rattle.commands.proofs.answer.Goals as goal
use Rattle.commands.proofs.answer.Goals.{then-is_empty-via-then-is_empty, then-is_empty-via-else-is_empty+then-first-eq35}

pub returns-then-line-gt-LINE_MOST : goal.returns-then-line-gt-LINE_MOST
returns-then-line-gt-LINE_MOST c = rw (too_long _ c.if-line-gt-LINE_MOST.true) c.answer_fault.ensures

pub returns-then-is_empty : goal.returns-then-is_empty
returns-then-is_empty c =
    let short = c.if-line-gt-LINE_MOST.false in
    let places = c.split_field.ensures.places in
    elim c.then-is_empty.branch [
      | then-is_empty-via-then-is_empty w ↦
          let none : length c.split_field.result.0.now ≡ 0 = search (rules, tests) in
          nothing_said _ _ (no_field_found _ _ _ short places none)
      | then-is_empty-via-else-is_empty+then-first-eq35 w ↦
          let some : 0 < length c.split_field.result.0.now = search (rules, tests) in
          nothing_said _ _ (comment_found_first _ _ _ short places some (eq-eqb _ _ w.if-first-eq35.true))
    ]

pub returns-in-Err : goal.returns-in-Err
returns-in-Err c =
    let some : 0 < length c.split_field.result.0.now = search (rules, tests) in
    rw (a_fault _ _ _ c.if-line-gt-LINE_MOST.false c.split_field.ensures.split some (ne_eqb _ _ c.if-first-eq35.false) _
    c.name_in-name.ensures _ c.fault_for-found.ensures c.in-Err.is) c.answer_fault-in-Err.ensures

pub returns-in-Ok : goal.returns-in-Ok
returns-in-Ok c =
    let some : 0 < length c.split_field.result.0.now = search (rules, tests) in
    rw (without_fault _ _ _ c.if-line-gt-LINE_MOST.false c.split_field.ensures.split some (ne_eqb _ _ c.if-first-eq35.false)
    _ c.name_in-name.ensures _ c.fault_for-found.ensures c.in-Ok.is)
    (line_fed _ _ _ c.perform-r.ensures c.put_byte-size.ensures)

-- `commands::faults::words_fault` meets its contract. The loop's invariant: no word before the present field has a fault.
use mathlib.Core.Path.{◌≡◌}
use Prim.Native.Nat.{◌<◌}
use lib.ListN.{length}
use native.Mathlib.Omega.{arith}
use Rattle.std.proofs.Common.{rules, tests}
use Rattle.std.specs.Prelude.{Err}
use Rattle.commands.proofs.FirstFault.{faults_start, fault_here, faults_more, faults_end}
use Rattle.commands.proofs.faults.words_fault.Goals as goal

pub loop-field-init : goal.loop-field-init
loop-field-init c = faults_start c.split_field.ensures.split

pub returns-in_err-number_fault : goal.returns-in_err-number_fault
returns-in_err-number_fault c =
    let same : c.from_residual.result ≡ Err c.in_err-number_fault.field-0.0 = search rules in
    let some : 0 < length c.loop-field.field.now = search (rules, tests) in
    rw same (fault_here c.loop-field.invariant _ some c.in_err-number_fault.ensures)

pub loop-field-smaller : goal.loop-field-smaller
loop-field-smaller c =
    let some : 0 < length c.loop-field.field.now = search (rules, tests) in
    omega (arith, some, c.split_field-in-loop-field.ensures.split.shorter)

pub loop-field-preserved : goal.loop-field-preserved
loop-field-preserved c =
    let some : 0 < length c.loop-field.field.now = search (rules, tests) in
    faults_more c.loop-field.invariant some c.in_ok-number_fault.ensures c.split_field-in-loop-field.ensures.split

pub returns : goal.returns
returns c =
    let none : length c.loop-field.field.now ≡ 0 = search (rules, tests) in
    faults_end c.loop-field.invariant none

-- `store::reader::record_at` meets its contract: if it answers that there is nothing, the number it read is not the length of a record.
use native.Mathlib.Omega.{arith}
use mathlib.Core.Path.{refl, ◌∙◌}
use Rattle.store.proofs.RecordsIn.{nothing_there, record_there}
use Rattle.store.proofs.reader.record_at.Goals as goal
use Rattle.store.proofs.reader.record_at.Goals.{then-length-lt2-via-then-length-lt2, then-length-lt2-via-else-length-lt2+then-length-ne0}

pub returns-in_err-left : goal.returns-in_err-left
returns-in_err-left c =
    c.from_residual.ensures
    ∙ nothing_there c.args.cursor.at c.args.bytes.now _ refl (λ r. c.in_err-left.ensures (omega (arith, r.enough)))

pub returns-then-left-lt-BEFORE_NUMBERS : goal.returns-then-left-lt-BEFORE_NUMBERS
returns-then-left-lt-BEFORE_NUMBERS c =
    nothing_there c.args.cursor.at c.args.bytes.now _ refl (λ r. omega (arith, c.in_ok-left.ensures, r.enough))

pub returns-then-length-lt2 : goal.returns-then-length-lt2
returns-then-length-lt2 c =
    nothing_there c.args.cursor.at c.args.bytes.now _ c.number_at-length.ensures
    (λ r.
    elim c.then-length-lt2.branch [
      | then-length-lt2-via-then-length-lt2 w ↦ omega (arith, r.least)
      | then-length-lt2-via-else-length-lt2+then-length-ne0 w ↦ omega (arith, r.even)
    ])

pub returns-then-left-length : goal.returns-then-left-length
returns-then-left-length c =
    nothing_there c.args.cursor.at c.args.bytes.now _ c.number_at-length.ensures (λ r. omega (arith, c.in_ok-left.ensures, r.enough))

pub returns : goal.returns
returns c =
    record_there c.args.cursor.at c.args.bytes.now _ _ c.number_at-length.ensures c.number_at.ensures
    (record { least = omega arith; even = omega arith; enough = omega (arith, c.in_ok-left.ensures) })

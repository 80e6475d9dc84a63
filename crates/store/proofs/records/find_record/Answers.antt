-- `store::records::find_record` meets its contract. What `see_record_at` saw at the cursor is the record that is asked for, or it is not.
use native.Mathlib.Omega.{arith}
use mathlib.Core.Path.{◌∙◌}
use Rattle.store.proofs.RecordsIn.{no_record, other_kind, other_count, record_found}
use Rattle.store.proofs.records.find_record.Goals as goal
use Rattle.store.proofs.records.find_record.Goals.{then-count-least-via-then-count-least}
use Rattle.store.proofs.records.find_record.Goals.{then-count-least-via-else-count-least+then-most-count}

pub returns-in_err-kind : goal.returns-in_err-kind
returns-in_err-kind c =
    c.from_residual.ensures
    ∙ no_record c.args.record_kind c.args.least c.args.most c.args.cursor.at c.args.bytes.now c.in_err-kind.ensures

pub returns-then-kind-record_kind : goal.returns-then-kind-record_kind
returns-then-kind-record_kind c = other_kind _ _ _ _ _ _ c.in_ok-kind.ensures c.if-kind-record_kind.true

pub returns-then-count-least : goal.returns-then-count-least
returns-then-count-least c =
    other_count _ _ _ _ _ _ c.in_ok-kind.ensures
    (λ enough few.
    elim c.then-count-least.branch [
      | then-count-least-via-then-count-least w ↦ omega (arith, enough)
      | then-count-least-via-else-count-least+then-most-count w ↦ omega (arith, few)
    ])

pub returns : goal.returns
returns c = record_found _ _ _ _ _ _ c.in_ok-kind.ensures c.if-kind-record_kind.false (omega arith) (omega arith)

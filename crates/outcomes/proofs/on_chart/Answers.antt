-- `outcomes::on_chart` meets its contract.
use Rattle.store.proofs.Returning.{written_fits, written_count}
use Rattle.outcomes.proofs.Ending.{ends_written, ends-declined}
use Rattle.outcomes.proofs.on_chart.Goals as goal

pub slice_bounds-of_form-end : goal.slice_bounds-of_form-end
slice_bounds-of_form-end c =
    written_fits _ _ _ _ (rw c.in-Ok.is at c.write-written.ensures)

pub slice_bounds-of_form-end-in-Ok : goal.slice_bounds-of_form-end-in-Ok
slice_bounds-of_form-end-in-Ok c =
    written_count _ _ _ _ (rw c.in-Ok.is at c.write-written.ensures)

pub returns-in-Ok : goal.returns-in-Ok
returns-in-Ok c =
    ends_written c.args.chart _ _ c.answer_line-answered.result (
      c.answer_line-answered.ensures.answers,
      c.answer_line-answered.ensures.answers_in_full,
    ) _ _
    (rw c.in-Ok.is at c.write-written.ensures) c.of_form.ensures

pub returns-in-Err : goal.returns-in-Err
returns-in-Err c =
    ends-declined c.args.chart _ _ c.answer_line-answered.result
    (c.answer_line-answered.ensures.answers, c.answer_line-answered.ensures.answers_in_full) _ _
    (rw c.in-Err.is at c.write-written.ensures) c.not_written.ensures

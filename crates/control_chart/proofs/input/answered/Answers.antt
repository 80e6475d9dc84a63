-- `control_chart::input::answered` meets its contract.
use native.Mathlib.Omega.{arith}
use Rattle.rules.proofs.Buffer.{front_is}
use Rattle.printing.proofs.Putting.{puts_within}
use Rattle.control_chart.specs.Input.{after_line}
use Rattle.control_chart.proofs.Places.{counted}
use Rattle.control_chart.proofs.input.answered.Goals as goal

pub slice_bounds-out-end : goal.slice_bounds-out-end
slice_bounds-out-end c = puts_within (omega arith) c.answer_line-answer.ensures.answers.text

pub slice_bounds-after_answer-end : goal.slice_bounds-after_answer-end
slice_bounds-after_answer-end c = counted _ _ (puts_within (omega arith) c.answer_line-answer.ensures.answers.text)

pub returns : goal.returns
unfolding after_line
returns c =
    let answer = c.answer_line-answer in
    let text = front_is (answer.ensures.answers_in_full (omega arith)) in
    rw (answer.ensures.answers.chart, text) at c.after_answer.ensures

-- `lists::run_from` meets its contract.
use mathlib.Core.Path.{◌≡◌}
use Rattle.lines.specs.Lines.{lines_answer_says, answer_to_lines}
use Rattle.lists.specs.Runs.{outcome_of, start_on}
use Rattle.lists.proofs.Outcomes.{was_run, not_run}
use Rattle.lists.proofs.run_from.Goals.{in-Ok, in-Err}
use Rattle.lists.proofs.run_from.Goals as goal

pub returns : goal.returns
returns c =
    let calls = c.args.calls.now in
    let room = c.args.answers.now in
    let start = outcome_of (start_on c.args.start) calls room in
    let asked : lines_answer_says c.lines_of.result ≡ answer_to_lines c.match-try_run.answer.0 = c.lines_of.ensures in
    elim c.match-try_run.branch [
      | in-Ok w ↦ rw w.answer-is (was_run calls room _ _ start w.in-Ok.after w.in-Ok.ensures (rw w.answer-is at asked))
      | in-Err w ↦
          rw (w.answer-is, w.zero_chart.ensures)
          (not_run calls room _ _ start w.in-Err.refusal w.in-Err.ensures (rw (w.answer-is, w.zero_chart.ensures) at asked))
    ]

-- `commands::answer_line` meets its contract: in a buffer that is long enough the answer is whole.
use native.Mathlib.Omega.{arith}
use borrow.Author.Rules.{rules}
use Rattle.commands.proofs.Room.{words_short, IsTyped, in_full}
use Rattle.commands.proofs.answer_line.Goals as goal

pub returns : goal.returns
returns c =
    let chart = c.args.chart in
    let held = c.well_formed.0.1.1 in
    let typed : IsTyped chart = record {
      kind = omega (arith, held.0.1);
      status = omega (arith, held.1.1.1.1.1.0.1);
      verdict = omega (arith, held.1.1.1.1.1.1.0.1);
      base_places = search rules;
      series_places = search rules;
      base = words_short chart.base _ held.1.0.1.1;
      series = words_short chart.series _ held.1.1.1.0.1.1;
    } in
    let both = in_full _ typed _ _ c.answer.ensures in
    record { answers = both.0; answers_in_full = both.1 }

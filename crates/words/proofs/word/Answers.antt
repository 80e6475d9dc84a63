-- `words::word` meets its contract.
use Rattle.rules.proofs.Booleans.{answered_no, answered_yes}
use mir.Facts.{to_z-of_z}
use Rattle.rules.specs.Word.{word_alone}
use Rattle.refusals.specs.Refusal.{result_says, refusal_number}
use Rattle.words.proofs.word.Goals as goal

pub returns-then-not-is_kind : goal.returns-then-not-is_kind
unfolding result_says refusal_number word_alone
returns-then-not-is_kind c = rw (answered_no c.is_kind.ensures c.if-not-is_kind.true)

pub returns : goal.returns
unfolding word_alone
returns c =
    let fits = c.ranges in
    rw (answered_yes c.is_kind.ensures c.if-not-is_kind.false)
    (rw (to_z-of_z fits.a, to_z-of_z fits.b, to_z-of_z fits.c) at c.from_reading.ensures)

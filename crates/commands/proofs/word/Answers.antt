-- `commands::word` meets its contract.
use borrow.Author.Rules.{sfits_of}
use mir.Syntax.{w64}
use mir.Facts.{to_z-of_z}
use Rattle.refusals.specs.Refusal.{result_says}
use Rattle.commands.specs.Answers.{word_reply}
use Rattle.commands.proofs.word.Goals as goal

pub returns : goal.returns
unfolding word_reply result_says
returns c =
    let told = c.struct_told-3-1.given in
    let found = c.readings_in-f in
    let numbers = found.result in
    let are = found.ensures in
    rw (
      ← are.kind,
      ← are.a,
      ← are.b,
      ← are.c,
      ← to_z-of_z {w = w64} {z = numbers.a} (sfits_of told.1.0.1),
      ← to_z-of_z {w = w64} {z = numbers.b} (sfits_of told.1.1.0.1),
      ← to_z-of_z {w = w64} {z = numbers.c} (sfits_of told.1.1.1.0.1),
      ← c.word.ensures,
    ) c.put_formed.ensures

-- `commands::put_inquiry` meets its contract, by the command's name.
use Rattle.lines.specs.Lines.{lines_answer_says}
use Rattle.commands.specs.Command.{inquiry_for}
use Rattle.commands.specs.Reply.{reply_to}
use Rattle.commands.specs.Answers.{word_reply}
use Rattle.commands.proofs.put_inquiry.Goals as goal

pub returns-in-Word : goal.returns-in-Word
unfolding inquiry_for reply_to word_reply
returns-in-Word c = rw c.in-Word.is c.word.ensures

pub returns-in-Lines : goal.returns-in-Lines
unfolding inquiry_for reply_to lines_answer_says
returns-in-Lines c =
    rw (c.in-Lines.is, ← c.lines_of.ensures) c.put_lines.ensures

pub returns-in-Write : goal.returns-in-Write
unfolding inquiry_for
returns-in-Write c = rw c.in-Write.is c.write.ensures

pub returns-in-Show : goal.returns-in-Show
unfolding inquiry_for reply_to
returns-in-Show c = rw c.in-Show.is c.put_chart.ensures

-- `commands::correct` meets its contract.
use mathlib.Core.Path.{refl}
use Rattle.rules.specs.Machine.{correction}
use Rattle.chart.specs.Calls.{correction_says}
use Rattle.commands.specs.Command as command
use Rattle.commands.specs.Reply.{reply_to, chart_after_command}
use Rattle.commands.proofs.Replying.{replies_call}
use Rattle.commands.proofs.correct.Goals as goal

pub returns : goal.returns
unfolding reply_to chart_after_command correction_says
returns c =
    replies_call c.args.chart command.correct correction refl refl c.correct-r.ensures c.put_correction-size.ensures

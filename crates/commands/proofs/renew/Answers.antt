-- `commands::renew` meets its contract.
use mathlib.Core.Path.{refl}
use Rattle.rules.specs.Machine.{renewal}
use Rattle.chart.specs.Calls.{renewal_says}
use Rattle.commands.specs.Command as command
use Rattle.commands.specs.Reply.{reply_to, chart_after_command}
use Rattle.commands.proofs.Replying.{replies_call}
use Rattle.commands.proofs.renew.Goals as goal

pub returns : goal.returns
unfolding reply_to chart_after_command renewal_says
returns c =
    replies_call c.args.chart command.renew renewal refl refl c.renew-r.ensures c.put_renewal-size.ensures

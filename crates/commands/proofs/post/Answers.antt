-- `commands::post` meets its contract.
use mathlib.Core.Path.{refl}
use borrow.Author.Rules.{sfits_of}
use mir.Syntax.{w64}
use mir.Facts.{to_z-of_z}
use Rattle.rules.specs.Machine.{post}
use Rattle.chart.specs.Calls.{post_says}
use Rattle.commands.specs.Command as command
use Rattle.commands.specs.Reply.{reply_to, chart_after_command}
use Rattle.commands.proofs.Replying.{replies_call}
use Rattle.commands.proofs.post.Goals as goal

pub returns : goal.returns
unfolding reply_to chart_after_command post_says
returns c =
    let told = c.struct_told-3-1.given in
    let found = c.readings_in-f in
    let numbers = found.result in
    let are = found.ensures in
    let gives = rw (
      to_z-of_z {w = w64} {z = numbers.a} (sfits_of told.1.0.1),
      to_z-of_z {w = w64} {z = numbers.b} (sfits_of told.1.1.0.1),
      to_z-of_z {w = w64} {z = numbers.c} (sfits_of told.1.1.1.0.1),
      are.kind,
      are.a,
      are.b,
      are.c,
    ) at c.post-r.ensures in
    replies_call c.args.chart (command.post _ _ _ _) (post _ _ _ _) refl refl gives c.put_post-size.ensures

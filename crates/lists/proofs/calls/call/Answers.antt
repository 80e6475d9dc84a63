-- `lists::calls::call` meets its contract.
use borrow.Author.Rules.{rules}
use mir.Facts.{to_z-of_z}
use Rattle.rules.specs.Machine.{renewal}
use Rattle.chart.specs.Calls.{post_says, reanalysis_says, correction_says, renewal_says}
use Rattle.lists.proofs.Decoding.{post_is, reanalysis_is, correction_is, renewal_is}
use Rattle.lists.proofs.Running.{called, counted}
use Rattle.lists.proofs.calls.call.Goals as goal

pub returns-in-1 : goal.returns-in-1
unfolding post_says
returns-in-1 c =
    let a = c.args in
    let e = post_is a.number a.kind a.a a.b a.c c.ranges.number (search rules) in
    called e (rw (to_z-of_z c.ranges.a, to_z-of_z c.ranges.b, to_z-of_z c.ranges.c) at c.post-r.ensures) c.said_by_post.ensures

pub returns-in-2 : goal.returns-in-2
unfolding reanalysis_says
returns-in-2 c =
    let a = c.args in
    let e = reanalysis_is a.number a.kind a.a a.b a.c c.ranges.number (search rules) (search rules) in
    called e (rw (to_z-of_z c.ranges.a, to_z-of_z c.ranges.b, to_z-of_z c.ranges.c) at c.reanalyse-r.ensures)
    c.said_by_reanalysis.ensures

pub returns-in-3 : goal.returns-in-3
unfolding correction_says
returns-in-3 c =
    let a = c.args in
    let e = correction_is a.number a.kind a.a a.b a.c c.ranges.number (search rules) (search rules) (search rules) in
    called e c.correct-r.ensures c.said_by_correction.ensures

pub said_by_renewal-requires : goal.said_by_renewal-requires
unfolding renewal_says
said_by_renewal-requires c = rw c.renew-r.ensures.says (counted c.args.chart renewal)

pub returns-in_default : goal.returns-in_default
unfolding renewal_says
returns-in_default c =
    let a = c.args in
    let e = renewal_is a.number a.kind a.a a.b a.c c.ranges.number (search rules) (search rules) (search rules) in
    called e c.renew-r.ensures c.said_by_renewal.ensures

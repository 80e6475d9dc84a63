-- `store::write_sound` meets its contract, by a law of writing for each return.
use borrow.Author.Rules.{rules}
use native.Mathlib.Omega.{arith}
use Rattle.chart.proofs.State.{Given, given}
use Rattle.store.proofs.Writing.{write_short, write_done}
use Rattle.store.proofs.write_sound.Goals as goal

pub form_size-requires : goal.form_size-requires
form_size-requires c =
    let chart = c.args.sound.chart in
    let facts : Given chart = given chart (search rules) (search rules) c.args.sound.sound in
    let within = facts.within in
    (omega (arith, within.base_few), omega (arith, within.series_few))

pub returns-then-out-form_size : goal.returns-then-out-form_size
returns-then-out-form_size c =
    let chart = c.args.sound.chart in
    let facts : Given chart = given chart (search rules) (search rules) c.args.sound.sound in
    write_short _ facts _ c.args.sound.sound (omega (arith, c.if-out-form_size.true, c.form_size.ensures))

pub put_form-requires : goal.put_form-requires
put_form-requires c =
    omega (arith, c.if-out-form_size.false, c.form_size.ensures)

pub returns : goal.returns
returns c =
    let chart = c.args.sound.chart in
    let facts : Given chart = given chart (search rules) (search rules) c.args.sound.sound in
    let room = c.form_size.ensures in
    write_done _ facts _ _ _ c.args.sound.sound (omega (arith, c.if-out-form_size.false)) c.put_form.ensures

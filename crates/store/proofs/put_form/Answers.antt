-- `store::put_form` meets its contract: each of the three records begins where the one before it ends.
use borrow.Author.Rules.{rules, sfits_of}
use native.Mathlib.Omega.{arith}
use mathlib.Core.List.{[], ◌∷◌}
use Prim.Native.Nat.{◌<◌, ◌≤◌}
use lib.ListN.{length, take, length-map}
use Rattle.rules.specs.Bytes.{number_of}
use Rattle.rules.specs.StoredForm.{head_numbers, stored_form}
use Rattle.chart.specs.Chart.{state_of}
use Rattle.chart.proofs.State.{given}
use Rattle.store.proofs.Writing.{head_number, sound_base_few, sound_series_few, base_taken, series_taken}
use Rattle.store.proofs.Writing.{form_size_lem, record_ends, form_placed}
use Rattle.store.proofs.put_form.Goals as goal

pub put_record-after_base-requires : goal.put_record-after_base-requires
put_record-after_base-requires c =
    let chart = c.args.sound.chart in
    let whole = c.args.sound.sound in
    let count = base_taken chart (search rules) (search rules) whole in
    let few = sound_base_few chart (search rules) (search rules) whole in
    let end = record_ends _ _ c.put_record-after_head.ensures in
    (omega (arith, count, few), omega (arith, c.requires, count, end))

pub put_record-requires : goal.put_record-requires
put_record-requires c =
    let chart = c.args.sound.chart in
    let whole = c.args.sound.sound in
    let bases = length-map (take chart.base_len chart.base) number_of in
    let base_count = base_taken chart (search rules) (search rules) whole in
    let count = series_taken chart (search rules) (search rules) whole in
    let few = sound_series_few chart (search rules) (search rules) whole in
    let first_end = record_ends _ _ c.put_record-after_head.ensures in
    let second-end = record_ends _ _ c.put_record-after_base.ensures in
    (omega (arith, count, few), omega (arith, c.requires, bases, base_count, count, first_end, second-end))

pub returns : goal.returns
unfolding state_of head_numbers
returns c =
    let chart = c.args.sound.chart in
    let whole = c.args.sound.sound in
    let kind_small : chart.kind < 65536 = search rules in
    let status_small : chart.status < 65536 = search rules in
    let verdict_small : chart.open_verdict < 65536 = search rules in
    let size = form_size_lem chart (given chart (search rules) (search rules) whole) in
    let room : length (stored_form (state_of chart)) ≤ length c.args.out.now = omega (arith, size, c.requires) in
    let k = head_number (sfits_of c.word_of.type_inv) kind_small c.word_of.ensures in
    let s = head_number (sfits_of c.word_of-2.type_inv) status_small c.word_of-2.ensures in
    let v = head_number (sfits_of c.word_of-3.type_inv) verdict_small c.word_of-3.ensures in
    form_placed (state_of chart) _ room (λ i. k i ∷ s i ∷ v i ∷ [])
    c.put_record-after_head.ensures c.put_record-after_base.ensures c.put_record.ensures

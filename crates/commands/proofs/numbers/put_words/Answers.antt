-- `commands::numbers::put_words` meets its contract. The loop's invariant: the words before the present field are put.
use mir.Syntax.{w16}
use mathlib.Core.Path.{◌≡◌, ◌∙◌}
use Prim.Native.Nat.{◌<◌}
use borrow.Author.Rules.{sfits_of}
use lib.ListN.{length}
use mir.Facts.{to_z-of_z}
use native.Mathlib.Omega.{arith}
use Rattle.std.proofs.Common.{rules, tests}
use Rattle.commands.proofs.WordsPut.{words_start_lem, room_for_one, words_more, words_end}
use Rattle.commands.proofs.numbers.put_words.Goals as goal

pub loop-field-init : goal.loop-field-init
loop-field-init c = words_start_lem c.args.words.now c.split_field.ensures.split

pub offset_bounds-words-count : goal.offset_bounds-words-count
offset_bounds-words-count c =
    let some : 0 < length c.loop-field.field.now = search (rules, tests) in
    let room = room_for_one c.requires c.loop-field.invariant some in search rules

pub bounds-words-count : goal.bounds-words-count
bounds-words-count c = room_for_one c.requires c.loop-field.invariant (search (rules, tests))

pub overflow_add-count : goal.overflow_add-count
overflow_add-count c =
    let some : 0 < length c.loop-field.field.now = search (rules, tests) in
    let room = room_for_one c.requires c.loop-field.invariant some in search rules

pub loop-field-smaller : goal.loop-field-smaller
loop-field-smaller c =
    let some : 0 < length c.loop-field.field.now = search (rules, tests) in
    omega (arith, some, c.split_field-in-loop-field.ensures.split.shorter)

pub loop-field-preserved : goal.loop-field-preserved
loop-field-preserved c =
    let some : 0 < length c.loop-field.field.now = search (rules, tests) in
    let word = c.word_in_field in
    let written = to_z-of_z {w = w16} (sfits_of word.type_inv) ∙ word.ensures in
    words_more c.requires c.loop-field.invariant some (rw c.number_in_field.ensures at written) c.split_field-in-loop-field.ensures.split

pub returns : goal.returns
returns c =
    let none : length c.loop-field.field.now ≡ 0 = search (rules, tests) in
    words_end c.requires c.loop-field.invariant none

-- 4,096 bytes are enough for every answer (`answer_room`), so a buffer of that many bytes holds the whole answer (`in_full`). The numbers
-- in an answer have at most five digits, except those of `lines`, which are read off doubles. For words, counts and verdicts this follows
-- from the paper's definitions. For what `show` shows it follows from the chart's type, whether the chart is sound or not.
use mathlib.Core.Path.{◌≡◌, refl}
use mathlib.Core.Bool.{true}
use mathlib.Core.List.{List, [], ◌∷◌, ◌++◌}
use Prim.Native.Nat.{ℕ, zero, suc, ◌<◌, ◌≤◌}
use native.Mathlib.Omega.{arith}
use lib.Dec.{lit<}
use lib.ListN.{length, take, length-take, length-append}
use lib.Seq.{get_or-take}
use lib.IntN.{ℤ, pos, negsuc, nat_abs}
use mir.Syntax.{w16}
use mir.Val.{Val, SFits}
use borrow.Author.Rules.{sfits_of}
use denote.Shadow.{shadow}
use denote.Array.{each}
use denote.Signed.{SInt}
use Rattle.rules.specs.Outcome.{refused}
use Rattle.rules.specs.Sizes.{base_most, series_most}
use Rattle.rules.specs.Kind.{is_kind, in_range}
use Rattle.rules.specs.Word.{word_alone, from_reading}
use Rattle.rules.specs.Building.{building}
use Rattle.rules.specs.State.{State, limits_for}
use Rattle.rules.specs.Machine.{Call, posting, reanalysing, correcting, step}
use Rattle.rules.specs.Machine as machine
use Rattle.rules.specs.StoredForm.{stored_form}
use Rattle.rules.specs.ReadForm.{reading, is_form, held_in}
use Rattle.rules.specs.Soundness.{sound}
use Rattle.rules.proofs.Choice.{choose_ind, require_ind}
use Rattle.rules.proofs.Kind.{in_range_few}
use Rattle.rules.proofs.Building.{building_ind}
use Rattle.rules.proofs.Verdict.{verdict_at_most_four}
use Rattle.rules.proofs.Machine.{reading_ind, step_ind, renewing_small}
use Rattle.chart.specs.declared.Chart.{Chart}
use Rattle.chart.specs.Chart.{state_of}
use Rattle.chart.specs.Calls.{answer_to}
use Rattle.chart.specs.Soundness.{sound_chart}
use Rattle.chart.proofs.SoundCharts.{sound_chart_facts}
use Rattle.lines.specs.Lines.{answer_to_lines}
use Rattle.printing.proofs.Putting.{puts_room}
use Rattle.replies.specs.Texts.{refusal_text, answer_text, bytes_text, state_text}
use Rattle.replies.proofs.Lengths.{Short, ShortFormed, ShortBuilding, ShortAnswer, ShortReading, ShortLines, ShortWords, ShortState}
use Rattle.replies.proofs.Lengths.{refusal_length, formed_length, building-length, answer_length, reading-length, lines_length}
use Rattle.replies.proofs.Lengths.{bytes_length, state-length, fault_length}
use Rattle.store.specs.Store.{form_most}
use Rattle.store.proofs.Writing.{form_within}
use Rattle.commands.specs.declared.Answered.{Answered}
use Rattle.commands.specs.Command.{Command, Line}
use Rattle.commands.specs.Command as command
use Rattle.commands.specs.Reply.{answer_most, reply_to, answer_to_line}
use Rattle.commands.specs.Answers.{Answers, AnswersInFull}

-- ---- the numbers in what the calls answer

word_short : (kind : ℕ) (w : ℤ) → in_range kind w ≡ true → Short (nat_abs w)
word_short kind w r = omega (arith, in_range_few kind w r)

formed_short : (kind : ℕ) (a b c : ℤ) → ShortFormed (word_alone kind a b c)
unfolding word_alone
formed_short kind a b c =
    require_ind ShortFormed (is_kind kind) (refused 1) (from_reading kind a b c)
    (λ _. reading_ind kind a b c ShortFormed (word_short kind) (λ n h. omega (arith, h.small)))
    (λ _. lit< tt)

building_short : (kind : ℕ) (words : List ℤ) → ShortBuilding (building kind words)
building_short kind words =
    building_ind kind words ShortBuilding (λ n _ h. omega arith) (λ b h k. (omega arith, omega arith))

step_short : (s : State) (call : Call) → ShortAnswer (step s call).answer
unfolding posting reanalysing correcting
step_short s =
    step_ind s (λ next. ShortAnswer next.answer)
    (λ n h. omega (arith, h.small))
    (λ w free room r. (word_short s.kind w r, omega (arith, verdict_at_most_four (limits_for s) (s.series ++ (w ∷ [])))))
    (λ w due r. word_short s.kind w r)
    (λ due. tt)
    (λ k free is. let small = renewing_small s k is.will_do _ _ refl in (omega (arith, small.0), omega (arith, small.1)))

answer_short : (c : Chart) (call : Call) → ShortAnswer (answer_to c call)
unfolding answer_to
answer_short c call =
    choose_ind ShortAnswer (sound_chart c) (step (state_of c) call).answer (machine.refused 14)
    (λ _. step_short (state_of c) call) (λ _. lit< tt)

lines_short : (c : Chart) → ShortLines (answer_to_lines c)
unfolding answer_to_lines
lines_short c = require_ind ShortLines (sound_chart c) (refused 14) _ (λ _. tt) (λ _. lit< tt)

reading_short : (bytes : List ℕ) → ShortReading (reading bytes)
unfolding reading
reading_short bytes =
    require_ind ShortReading (is_form bytes) (refused 13) _
    (λ _. require_ind ShortReading (sound (held_in bytes)) (refused 14) _ (λ _. tt) (λ _. lit< tt))
    (λ _. lit< tt)

-- ---- a stored form is no longer than the longest

form_length : (c : Chart) → sound_chart c ≡ true → length (stored_form (state_of c)) ≤ form_most
form_length c t = form_within (state_of c) (sound_chart_facts c t).state

write_length : (c : Chart) → length (reply_to c command.write) < answer_most
unfolding reply_to
write_length c =
    let form = stored_form (state_of c) in
    require_ind (λ text. length text < answer_most) (sound_chart c) (refusal_text 14) (bytes_text form)
    (λ t. omega (arith, form_length c t, bytes_length form (omega (arith, form_length c t))))
    (λ _. omega (arith, refusal_length 14 (lit< tt)))

-- ---- a chart of the program's type: its numbers and words have sixteen bits, and it has 32 and 366 places for words

fits_short : (w : ℤ) → SFits w16 w → Short (nat_abs w)
fits_short (pos n) h = omega (arith, h.sfits)
fits_short (negsuc n) h = omega (arith, h.sfits)

-- the words of an array
pub words_short : (ws : List ℤ) (held : List Val) → shadow (each ℤ (SInt w16).own_val ws held) → ShortWords ws
words_short [] held p i less = absurd (omega arith)
words_short (w ∷ ws) [] p i less = absurd p
words_short (w ∷ ws) (v ∷ held) p zero less = fits_short w (sfits_of p.0.1)
words_short (w ∷ ws) (v ∷ held) p (suc i) less = words_short ws held p.1 i (omega arith)

pub record IsTyped (c : Chart) : Type 0 where
  pub kind : Short c.kind
  pub status : Short c.status
  pub verdict : Short c.open_verdict
  pub base_places : length c.base ≡ base_most
  pub series_places : length c.series ≡ series_most
  pub base : ShortWords c.base
  pub series : ShortWords c.series

take_short : (n : ℕ) (ws : List ℤ) → ShortWords ws → ShortWords (take n ws)
take_short n ws h i less =
    let count = length-take n ws in rw (get_or-take n ws i (pos 0) (omega arith)) (h i (omega arith))

state_short : (c : Chart) → IsTyped c → ShortState (state_of c)
unfolding state_of
state_short c t =
    record {
      kind = t.kind;
      status = t.status;
      verdict = t.verdict;
      base_count_lem = omega (arith, length-take c.base_len c.base, t.base_places);
      series_count_lem = omega (arith, length-take c.series_len c.series, t.series_places);
      base = take_short c.base_len c.base t.base;
      series = take_short c.series_len c.series t.series;
    }

show_length : (c : Chart) → IsTyped c → length (state_text (state_of c)) < answer_most
unfolding state_of
show_length c t =
    omega (
      arith,
      state-length (state_of c) (state_short c t),
      length-take c.base_len c.base,
      length-take c.series_len c.series,
      t.base_places,
      t.series_places,
    )

-- ---- replies and answers

call_room : (chart : Chart) (call : Call) → length (answer_text (answer_to chart call)) < answer_most
call_room chart call = omega (arith, answer_length (answer_to chart call) (answer_short chart call))

reply_room : (chart : Chart) → IsTyped chart → (asked : Command) → length (reply_to chart asked) < answer_most
unfolding reply_to
reply_room chart t (command.word kind a b c) = omega (arith, formed_length (word_alone kind a b c) (formed_short kind a b c))
reply_room chart t (command.build kind words) = omega (arith, building-length (building kind words) (building_short kind words))
reply_room chart t (command.post kind a b c) = call_room chart (machine.post kind a b c)
reply_room chart t (command.reanalyse kind a b c) = call_room chart (machine.reanalysis kind a b c)
reply_room chart t command.correct = call_room chart machine.correction
reply_room chart t command.renew = call_room chart machine.renewal
reply_room chart t command.lines = omega (arith, lines_length (answer_to_lines chart) (lines_short chart))
reply_room chart t command.write = write_length chart
reply_room chart t (command.read bytes) = omega (arith, reading-length (reading bytes) (reading_short bytes))
reply_room chart t command.show = show_length chart t

answer_room : (chart : Chart) → IsTyped chart → (line : Line) → length (answer_to_line chart line) ≤ answer_most
answer_room chart t command.passed_over = omega arith
answer_room chart t (command.faulty n) = rw length-append (omega (arith, fault_length n))
answer_room chart t (command.asked c) = rw length-append (omega (arith, reply_room chart t c))

pub in_full : {before after : List ℕ} (chart : Chart) → IsTyped chart → (line : Line) (r : Answered)
    → Answers chart line before after r → Answers chart line before after r × AnswersInFull chart line before after r
in_full {before} chart t line r answers =
    let text = answer_to_line chart line in
    let short = answer_room chart t line in (
      answers,
      λ room. puts_room text (omega arith) answers.text,
    )

-- The exit status found in the text of an answer is that of the command's result, for every chart and every line (`status_of_line`). It is
-- 3 for a fault (`status_fault`), 2 for a refusal (`status_refused`), 1 for a verdict other than 0 and for a failed reanalysis
-- (`status_judged`, `status_reanalysed`), and 0 for everything else.
use mathlib.Core.Path.{◌≡◌, refl, ap, ◌∙◌}
use mathlib.Core.Bool.{Bool, true, false}
use mathlib.Core.List.{List, [], ◌∷◌, ◌++◌, append_assoc}
use Prim.Native.Nat.{ℕ, zero, suc, ◌+◌, ◌/◌, ◌%◌, ◌<◌, ◌≤◌}
use native.Mathlib.Omega.{arith}
use borrow.Author.Tests.{ltb-true, ltb-false, ne_eqb}
use lib.ListN.{length}
use lib.Dec.{eqb, ltb, lit≤}
use lib.IntN.{ℤ, pos, negsuc}
use Rattle.rules.specs.Outcome.{Outcome, given}
use Rattle.rules.specs.Outcome as outcome
use Rattle.rules.specs.Choice.{choose}
use Rattle.rules.specs.Word.{word_alone}
use Rattle.rules.specs.Building.{BuiltState, building}
use Rattle.rules.specs.Machine.{Call, Answer, judged, reanalysed, corrected, renewed, refused}
use Rattle.rules.specs.Machine.{step, posting, reanalysing, correcting}
use Rattle.rules.specs.Machine as machine
use Rattle.rules.specs.State.{State, limits_for}
use Rattle.rules.specs.StoredForm.{stored_form}
use Rattle.rules.specs.ReadForm.{reading}
use Rattle.rules.specs.ChartLines.{duplicate, two_sided}
use Rattle.rules.specs.ChartLines as chart_lines
use Rattle.rules.proofs.Booleans.{by_test}
use Rattle.rules.proofs.Choice.{choose_ind}
use Rattle.rules.proofs.Verdict.{verdict_at_most_four}
use Rattle.rules.proofs.Machine.{step_ind}
use Rattle.chart.specs.declared.Chart.{Chart}
use Rattle.chart.specs.Chart.{state_of}
use Rattle.chart.specs.Calls.{answer_to}
use Rattle.chart.specs.Soundness.{sound_chart}
use Rattle.lines.specs.Lines.{answer_to_lines}
use Rattle.parsing.specs.Bytes.{same_bytes}
use Rattle.parsing.specs.Text.{begins, ends}
use Rattle.parsing.proofs.Tests.{same_itself}
use Rattle.parsing.proofs.FrontEnd.{ends_joined, ends_behind, ends_unlike}
use Rattle.printing.specs.Decimal.{decimal, signed_decimal, digit}
use Rattle.printing.proofs.Digits.{decimal_small, decimal_more}
use Rattle.printing.specs.Ascii.{ascii}
use Rattle.replies.specs.declared.Fault.{Fault}
use Rattle.replies.specs.declared.Fault.TheVariants as faults
use Rattle.replies.specs.Faults.{fault_text}
use Rattle.replies.specs.Texts.{refusal_text, word_text, formed_text, building_text, answer_text, lines_text, bytes_text, reading_text, state_text}
use Rattle.commands.specs.Command.{Command, Line}
use Rattle.commands.specs.Command as command
use Rattle.commands.specs.Reply.{reply_to, answer_to_line}
use Rattle.outcomes.specs.Status.{holds_by_end, holds_batch, status_of, status_of_answer, status_of_outcome}
use Rattle.outcomes.specs.Status.{status_of_outcome, status_to_command, status_to}

-- ---- errors and refusals, and answers that begin with another name than `word`

pub status_fault : (f : Fault) → status_of (fault_text f ++ (10 ∷ [])) ≡ 3
unfolding status_of begins same_bytes
status_fault faults.UnknownCommand = refl
status_fault faults.MissingNumber = refl
status_fault faults.ExtraNumber = refl
status_fault faults.NotANumber = refl
status_fault faults.NumberTooLarge = refl
status_fault faults.NotAHexDigit = refl
status_fault faults.OddHexDigits = refl
status_fault faults.LineTooLong = refl

pub status_refused : (n : ℕ) → status_of (refusal_text n ++ (10 ∷ [])) ≡ 2
unfolding refusal_text status_of begins same_bytes
status_refused n = refl

pub status_built : (b : BuiltState) → status_of (building_text (given b) ++ (10 ∷ [])) ≡ 0
unfolding status_of holds_batch begins same_bytes
status_built b = refl

pub status_corrected : status_of (answer_text corrected ++ (10 ∷ [])) ≡ 0
unfolding status_of holds_batch begins same_bytes
status_corrected = refl

pub status_renewed : (rounds removed : ℕ) → status_of (answer_text (renewed rounds removed) ++ (10 ∷ [])) ≡ 0
unfolding status_of holds_batch begins same_bytes
status_renewed rounds removed = refl

pub status_read : (s : State) → status_of (reading_text (given s) ++ (10 ∷ [])) ≡ 0
unfolding status_of holds_batch begins same_bytes
status_read s = refl

pub status_lines : (lines : chart_lines.Lines) → status_of (lines_text (given lines) ++ (10 ∷ [])) ≡ 0
unfolding status_of holds_batch begins same_bytes
status_lines (duplicate mean upper_warning upper_control) = refl
status_lines (two_sided mean lower_warning upper_warning lower_control upper_control) = refl

pub status_bytes : (bytes : List ℕ) → status_of (bytes_text bytes ++ (10 ∷ [])) ≡ 0
unfolding bytes_text status_of holds_batch begins same_bytes
status_bytes bytes = refl

pub status_chart : (s : State) → status_of (state_text s ++ (10 ∷ [])) ≡ 0
unfolding state_text status_of holds_batch begins same_bytes
status_chart s = refl

-- ---- answers that begin with a word

-- the ends of a text that hold a batch
abbrev failed_end : List ℕ
failed_end = ascii " failed" ++ (10 ∷ [])

abbrev verdict_end : ℕ → List ℕ
verdict_end v = ascii " verdict " ++ (digit v ∷ 10 ∷ [])

-- the front of the text is a word, so only the end decides
behind_word : (w : ℤ) (end : List ℕ) → status_of (word_text w ++ end) ≡ choose (holds_by_end (word_text w ++ end)) 1 0
unfolding word_text status_of holds_batch begins same_bytes
behind_word w end = refl

-- an end at least as long as the longest of those texts: what stands before it plays no part
holds_behind : (x y : List ℕ) → 11 ≤ length y → holds_by_end (x ++ y) ≡ holds_by_end y
unfolding holds_by_end
holds_behind x y h =
    rw (
      ends_behind x y failed_end (omega arith),
      ends_behind x y (verdict_end 1) (omega arith),
      ends_behind x y (verdict_end 2) (omega arith),
      ends_behind x y (verdict_end 3) (omega arith),
      ends_behind x y (verdict_end 4) (omega arith),
    )

-- an end no longer than the shortest of those texts, in which none of them ends, holds no batch
holds_unlike : (x y : List ℕ) → length y ≤ 8 → ends failed_end y ≡ false → ((v : ℕ) → ends (verdict_end v) y ≡ false)
    → holds_by_end (x ++ y) ≡ false
unfolding holds_by_end
holds_unlike x y h failed verdict =
    rw (
      ends_unlike x y failed_end (omega arith) failed,
      ends_unlike x y (verdict_end 1) (omega arith) (verdict 1),
      ends_unlike x y (verdict_end 2) (omega arith) (verdict 2),
      ends_unlike x y (verdict_end 3) (omega arith) (verdict 3),
      ends_unlike x y (verdict_end 4) (omega arith) (verdict 4),
    )

-- a verdict
verdict_holds : (v : ℕ) → v ≤ 4 → ◌≡◌ {A = ℕ} (choose (holds_by_end (verdict_end v)) 1 0) (choose (eqb v 0) 0 1)
unfolding holds_by_end ends same_bytes
verdict_holds zero h = refl
verdict_holds (suc zero) h = refl
verdict_holds (suc (suc zero)) h = refl
verdict_holds (suc (suc (suc zero))) h = refl
verdict_holds (suc (suc (suc (suc zero)))) h = refl
verdict_holds (suc (suc (suc (suc (suc v))))) h = absurd (omega arith)

pub status_judged : (w : ℤ) (v : ℕ) → v ≤ 4 → status_of (answer_text (judged w v) ++ (10 ∷ [])) ≡ choose (eqb v 0) 0 1
status_judged w v h =
    rw (decimal_small v (omega arith), append_assoc (word_text w))
    (behind_word w (verdict_end v)
    ∙ ap (λ (b : Bool). choose b 1 0) (holds_behind (word_text w) (verdict_end v) (lit≤ tt))
    ∙ verdict_holds v h)

-- a reanalysis
passed_unlike : (v : ℕ) → ends (verdict_end v) (ascii " passed" ++ (10 ∷ [])) ≡ false
unfolding ends same_bytes
passed_unlike v = refl

failed_unlike : ends failed_end (ascii " passed" ++ (10 ∷ [])) ≡ false
unfolding ends same_bytes
failed_unlike = refl

passed_free : (x : List ℕ) → holds_by_end (x ++ (ascii " passed" ++ (10 ∷ []))) ≡ false
passed_free x = holds_unlike x (ascii " passed" ++ (10 ∷ [])) (lit≤ tt) failed_unlike passed_unlike

failed_holds : (x : List ℕ) → holds_by_end (x ++ failed_end) ≡ true
unfolding holds_by_end
failed_holds x = rw (ends_joined x failed_end failed_end refl ∙ same_itself failed_end)

pub status_reanalysed : (w : ℤ) (passed : Bool) → status_of (answer_text (reanalysed w passed) ++ (10 ∷ [])) ≡ choose passed 0 1
status_reanalysed w true = rw (append_assoc (word_text w)) (behind_word w _ ∙ rw (passed_free (word_text w)))
status_reanalysed w false = rw (append_assoc (word_text w)) (behind_word w _ ∙ rw (failed_holds (word_text w)))

-- a word alone: the end is `word ` and one digit, or two digits
last_digit_ind : (P : List ℕ → Type 0) (n : ℕ) → ((x : List ℕ) (d : ℕ) → d < 10 → P (x ++ (digit d ∷ []))) → P (decimal n)
last_digit_ind P n f =
    by_test (ltb n 10)
    (λ t. let small = ltb-true n 10 t in rw (decimal_small n small) (f [] n small))
    (λ t. rw (decimal_more n (ltb-false n 10 t)) (f (decimal (n / 10)) (n % 10) (omega arith)))

digits_no_failed : (d e : ℕ) → d < 10 → ends failed_end (digit d ∷ digit e ∷ 10 ∷ []) ≡ false
unfolding ends same_bytes
digits_no_failed d e h = rw (ne_eqb 101 (48 + d) (λ same. omega arith))

digits_no_verdict : (d e v : ℕ) → ends (verdict_end v) (digit d ∷ digit e ∷ 10 ∷ []) ≡ false
unfolding ends same_bytes
digits_no_verdict d e v = rw (ne_eqb 32 (48 + d) (λ same. omega arith))

number_free : (front : List ℕ) (n : ℕ) → 10 ≤ n → holds_by_end ((front ++ decimal n) ++ (10 ∷ [])) ≡ false
number_free front n h =
    let e = n % 10 in
    rw (decimal_more n h)
    (last_digit_ind (λ tens. holds_by_end ((front ++ (tens ++ (digit e ∷ []))) ++ (10 ∷ [])) ≡ false) (n / 10)
    (λ x d less.
    let same : (front ++ ((x ++ (digit d ∷ [])) ++ (digit e ∷ []))) ++ (10 ∷ []) ≡ (front ++ x) ++ (digit d ∷ digit e ∷ 10 ∷ []) =
    simp append_assoc in
    rw same (holds_unlike (front ++ x) (digit d ∷ digit e ∷ 10 ∷ []) (lit≤ tt) (digits_no_failed d e less) (digits_no_verdict d e))))

short_free : (n : ℕ) → holds_by_end (ascii "word " ++ (digit n ∷ 10 ∷ [])) ≡ false
unfolding holds_by_end ends same_bytes
short_free n = refl

short_minus_free : (n : ℕ) → holds_by_end (ascii "word -" ++ (digit n ∷ 10 ∷ [])) ≡ false
unfolding holds_by_end ends same_bytes
short_minus_free n = refl

word_free : (w : ℤ) → holds_by_end (word_text w ++ (10 ∷ [])) ≡ false
unfolding word_text signed_decimal
word_free (pos n) =
    by_test (ltb n 10)
    (λ t. rw (decimal_small n (ltb-true n 10 t)) (short_free n))
    (λ t. number_free (ascii "word ") n (ltb-false n 10 t))
word_free (negsuc n) =
    by_test (ltb (suc n) 10)
    (λ t. rw (decimal_small (suc n) (ltb-true (suc n) 10 t)) (short_minus_free (suc n)))
    (λ t. number_free (ascii "word -") (suc n) (ltb-false (suc n) 10 t))

pub status_word : (w : ℤ) → status_of (word_text w ++ (10 ∷ [])) ≡ 0
status_word w = behind_word w (10 ∷ []) ∙ rw (word_free w)

-- ---- the commands' results

-- the verdict that a call answers is at most 4
abbrev VerdictWithin : Answer → Type 0
VerdictWithin (judged w v) = v ≤ 4
VerdictWithin (reanalysed w passed) = Unit
VerdictWithin corrected = Unit
VerdictWithin (renewed rounds removed) = Unit
VerdictWithin (refused n) = Unit

step-within : (s : State) (call : Call) → VerdictWithin (step s call).answer
unfolding posting reanalysing correcting
step-within s =
    step_ind s (λ next. VerdictWithin next.answer)
    (λ n h. tt)
    (λ w free room r. verdict_at_most_four (limits_for s) (s.series ++ (w ∷ [])))
    (λ w due r. tt)
    (λ due. tt)
    (λ k free is. tt)

answer_within : (c : Chart) (call : Call) → VerdictWithin (answer_to c call)
unfolding answer_to
answer_within c call =
    choose_ind VerdictWithin (sound_chart c) (step (state_of c) call).answer (refused 14)
    (λ _. step-within (state_of c) call) (λ _. tt)

status_answer : (a : Answer) → VerdictWithin a → status_of (answer_text a ++ (10 ∷ [])) ≡ status_of_answer a
status_answer (judged w v) h = status_judged w v h
status_answer (reanalysed w passed) h = status_reanalysed w passed
status_answer corrected h = status_corrected
status_answer (renewed rounds removed) h = status_renewed rounds removed
status_answer (refused n) h = status_refused n

status_call : (c : Chart) (call : Call) → status_of (answer_text (answer_to c call) ++ (10 ∷ [])) ≡ status_of_answer (answer_to c call)
status_call c call = status_answer (answer_to c call) (answer_within c call)

status_formed : (f : Outcome ℤ) → status_of (formed_text f ++ (10 ∷ [])) ≡ status_of_outcome f
status_formed (given w) = status_word w
status_formed (outcome.refused n) = status_refused n

status_building : (a : Outcome BuiltState) → status_of (building_text a ++ (10 ∷ [])) ≡ status_of_outcome a
status_building (given b) = status_built b
status_building (outcome.refused n) = status_refused n

status_chart_lines : (a : Outcome chart_lines.Lines) → status_of (lines_text a ++ (10 ∷ [])) ≡ status_of_outcome a
status_chart_lines (given lines) = status_lines lines
status_chart_lines (outcome.refused n) = status_refused n

status_reading : (a : Outcome State) → status_of (reading_text a ++ (10 ∷ [])) ≡ status_of_outcome a
status_reading (given s) = status_read s
status_reading (outcome.refused n) = status_refused n

status_written : (c : Chart) → status_of (reply_to c command.write ++ (10 ∷ [])) ≡ status_to_command c command.write
unfolding reply_to status_to_command
status_written c =
    let form = stored_form (state_of c) in
    by_test (sound_chart c)
    (λ t. rw t (status_bytes form))
    (λ t. rw t (status_refused 14))

status_of_command : (chart : Chart) (asked : Command) → status_of (reply_to chart asked ++ (10 ∷ [])) ≡ status_to_command chart asked
unfolding reply_to status_to_command
status_of_command chart (command.word kind a b c) = status_formed (word_alone kind a b c)
status_of_command chart (command.build kind words) = status_building (building kind words)
status_of_command chart (command.post kind a b c) = status_call chart (machine.post kind a b c)
status_of_command chart (command.reanalyse kind a b c) = status_call chart (machine.reanalysis kind a b c)
status_of_command chart command.correct = status_call chart machine.correction
status_of_command chart command.renew = status_call chart machine.renewal
status_of_command chart command.lines = status_chart_lines (answer_to_lines chart)
status_of_command chart command.write = status_written chart
status_of_command chart (command.read bytes) = status_reading (reading bytes)
status_of_command chart command.show = status_chart (state_of chart)

pub status_of_line : (chart : Chart) (line : Line) → status_of (answer_to_line chart line) ≡ status_to chart line
unfolding status_of holds_batch begins same_bytes
status_of_line chart command.passed_over = refl
status_of_line chart (command.faulty n) = status_fault n
status_of_line chart (command.asked c) = status_of_command chart c

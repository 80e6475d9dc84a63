-- Document 01, "The machine" and "Lists", and document 02, Q-1 and Q-4: the calls, their answers, one step, and a run over a list of calls
-- from an accepted start. `Lists` defines the starts after building and reading. The machine never answers 14: that refusal is about the
-- program's chart (`chart/specs/Calls`). From a sound start every state of a run is sound (`proofs/Machine`), so 14 never applies to a
-- chart of the run.
use Rattle.std.specs.Prelude.{Bool, List, [], ◌∷◌, ◌++◌, ℕ, zero, suc, ◌+◌, length, leb, ltb, eqb, ℤ}
use Rattle.rules.specs.Choice.{require, choose}
use Rattle.rules.specs.Outcome.{Outcome, given}
use Rattle.rules.specs.Outcome as outcome
use Rattle.rules.specs.Sizes.{base_wanted, series_most}
use Rattle.rules.specs.Word as word
use Rattle.rules.specs.Rejection.{RejectionAnswer, rejection}
use Rattle.rules.specs.LastWords.{last_words}
use Rattle.rules.specs.Tail.{Tail, of_words, no_tail, shortest_tail}
use Rattle.rules.specs.State.{State, fresh, limits_for, add_word, replace_last, set_status}
use Rattle.rules.specs.Verdict.{verdict, status_for}
use Rattle.rules.specs.Reanalysis.{passes}

-- "A post and a reanalysis bring a kind and three numbers, a correction and a renewal nothing."
pub data Call : Type 0 where
  post : (kind : ℕ) (a b c : ℤ) → Call
  reanalysis : (kind : ℕ) (a b c : ℤ) → Call
  correction : Call
  renewal : Call

-- a post answers "word and verdict", a reanalysis "the word and passed or failed", a renewal "rounds and number removed"; "A refusal
-- carries no word, verdict, count or line"
pub data Answer : Type 0 where
  judged : (w : ℤ) (v : ℕ) → Answer
  reanalysed : (w : ℤ) (passed : Bool) → Answer
  corrected : Answer
  renewed : (rounds removed : ℕ) → Answer
  refused : ℕ → Answer

-- the next state and the answer
pub record Next : Type 0 where
  pub state : State
  pub answer : Answer

-- "A refused call changes nothing."
abbrev pub declined : State → ℕ → Next
declined s n = record { state = s; answer = refused n }

-- ---- refusals that come first, before the call's reading and before rejection: the first number that applies, or 0 if none does

-- 8 "post or renewal, status not 0", 9 "post, 366 words in the series"
unfoldable pub post_refusal : State → ℕ
post_refusal s = require (eqb s.status 0) 8 (require (ltb (length s.series) series_most) 9 0)

-- 10 "reanalysis, status not 1"
unfoldable pub reanalysis_refusal : State → ℕ
reanalysis_refusal s = require (eqb s.status 1) 10 0

-- 11 "correction, status not 2"
unfoldable pub correction_refusal : State → ℕ
correction_refusal s = require (eqb s.status 2) 11 0

-- 8, then 12 "renewal, base and series below 15"
unfoldable pub renewal_refusal : State → ℕ
renewal_refusal s =
    require (eqb s.status 0) 8 (require (leb base_wanted (length s.base + length s.series)) 12 0)

abbrev pub refusal_for : State → Call → ℕ
refusal_for s (post kind a b c) = post_refusal s
refusal_for s (reanalysis kind a b c) = reanalysis_refusal s
refusal_for s correction = correction_refusal s
refusal_for s renewal = renewal_refusal s

-- ---- what a call does if none of these applies

-- the word of a reading: 4 "reading of another kind than the chart", then 5, 6, 7
unfoldable pub word_for : ℕ → ℕ → ℤ → ℤ → ℤ → Outcome ℤ
word_for chart_kind kind a b c = require (eqb kind chart_kind) (outcome.refused 4) (word.from_reading kind a b c)

-- the next state and answer for the word formed, or the refusal if none is formed
abbrev pub if_formed : State → Outcome ℤ → (ℤ → Next) → Next
if_formed s (given w) next = next w
if_formed s (outcome.refused n) next = declined s n

-- "Post forms the word, adds it to the series, and answers word and verdict"; the verdict sets the status. Document 02, Q-1: "The machine
-- judges in the new order throughout." That is the order of `verdict`
unfoldable pub posting : State → ℤ → Next
posting s w =
    let v = verdict (limits_for s) (s.series ++ (w ∷ [])) in
    record { state = set_status (add_word s w) (status_for v) v; answer = judged w v }

-- "Passed: it replaces the last word, status and open verdict become 0. Failed: status 2, series unchanged." The verdict stays open
unfoldable pub after_reanalysis : State → ℤ → Bool → State
after_reanalysis s w passed = choose passed (set_status (replace_last s w) 0 0) (set_status s 2 s.open_verdict)

unfoldable pub reanalysing : State → ℤ → Next
reanalysing s w =
    let passed = passes (limits_for s) s.open_verdict s.series w in
    record { state = after_reanalysis s w passed; answer = reanalysed w passed }

-- "Correction turns status 2 into 1." The verdict stays open
unfoldable pub correcting : State → Next
correcting s = record { state = set_status s 1 s.open_verdict; answer = corrected }

-- renewal "rejects as in building, empties the series and answers rounds and number removed"
abbrev pub renewed_by : State → RejectionAnswer → Next
renewed_by s r = record { state = fresh s.kind r.base; answer = renewed r.rounds r.removed }

-- document 02, Q-4: "Rounds and removals are those of the tail used." A renewal "is refused if no tail will do". The number is 16, "after
-- 12 in renewal"
abbrev pub renewed_by_tail : State → Tail → Next
renewed_by_tail s (of_words k) = renewed_by s (rejection s.kind (last_words k (s.base ++ s.series)))
renewed_by_tail s no_tail = declined s 16

-- "Renewal uses the shortest tail of base and series, .. of which at least 15 stand after rejection". The series follows the base
unfoldable pub renewing : State → Next
renewing s = renewed_by_tail s (shortest_tail s.kind (s.base ++ s.series))

abbrev pub performed : State → Call → Next
performed s (post kind a b c) = if_formed s (word_for s.kind kind a b c) (posting s)
performed s (reanalysis kind a b c) = if_formed s (word_for s.kind kind a b c) (reanalysing s)
performed s correction = correcting s
performed s renewal = renewing s

-- ---- one step, and a list of calls

abbrev pub unless_refused : State → ℕ → Next → Next
unless_refused s zero next = next
unless_refused s (suc n) next = declined s (suc n)

unfoldable pub step : State → Call → Next
step s call = unless_refused s (refusal_for s call) (performed s call)

-- "The list may be empty." "The machine is fed its start and what the calls bring, never the program's chart or answers."
unfoldable pub after : State → List Call → State
after s [] = s
after s (call ∷ calls) = after (step s call).state calls

unfoldable pub answers : State → List Call → List Answer
answers s [] = []
answers s (call ∷ calls) = (step s call).answer ∷ answers (step s call).state calls

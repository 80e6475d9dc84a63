-- Demand 3 over any chain of calls of the methods. The results of building or reading, of each call and of lines meet their contracts,
-- in the form in which these are read off the source (`Reads.Post`). A call takes the chart that the call before it gave back. The first
-- chart comes from building (`claim_from_words`) or reading (`claim_from_bytes`), and lines are asked of the last chart. Then the claim
-- holds for the whole list.
use mathlib.Core.Path.{◌≡◌, refl, sym, ap, ◌∙◌}
use mathlib.Core.List.{List, [], ◌∷◌}
use Prim.Native.Nat.{ℕ}
use lib.IntN.{ℤ}
use contract.Lifetimes.{Lfts}
use denote.Ref.{Bor}
use Rattle.std.specs.Prelude.{Result}
use Rattle.rules.specs.Outcome.{Outcome, given, refused}
use Rattle.rules.specs.Sizes.{base_wanted, base_least}
use Rattle.rules.specs.State.{State}
use Rattle.rules.specs.Building.{BuiltState, building}
use Rattle.rules.specs.ReadForm.{reading}
use Rattle.rules.specs.Lists.{start_of_building, words_start, bytes_start}
use Rattle.rules.specs.Machine.{Call, post, reanalysis, correction, renewal, Answer}
use Rattle.rules.proofs.Floor.{Starts}
use Rattle.rules.proofs.Lists.{start_of_building_lem, start_of-reading}
use Rattle.rules.proofs.Outcome.{same_given, given_not_refused}
use Rattle.refusals.specs.declared.Refusal.{Refusal}
use Rattle.chart.specs.declared.Chart.{Chart}
use Rattle.chart.specs.declared.Called as chart
use Rattle.chart.specs.declared.Counts.{Counts}
use Rattle.chart.specs.declared.Judged.{Judged}
use Rattle.chart.specs.declared.Retested.{Retested}
use Rattle.chart.specs.Chart.{chart_of, chart_after}
use Rattle.chart.specs.Calls.{Gives, post_says, reanalysis_says, correction_says, renewal_says, chart_after_calls, answers_to}
use Rattle.chart.proofs.Chart.build.Reads as build-reads
use Rattle.chart.proofs.Chart.post.Reads as post-reads
use Rattle.chart.proofs.Chart.reanalyse.Reads as reanalyse-reads
use Rattle.chart.proofs.Chart.correct.Reads as correct-reads
use Rattle.chart.proofs.Chart.renew.Reads as renew-reads
use Rattle.store.specs.Store.{chart_after_reading}
use Rattle.store.proofs.read.Reads as read-reads
use Rattle.lines.specs.declared.Lines.{Lines}
use Rattle.lines.specs.Lines.{lines_answer_says}
use Rattle.lines.proofs.lines_of.Reads as lines-reads
use Rattle.lists.specs.Claim.{Claim}
use Rattle.lists.proofs.Claims.{claim_of_run}

-- one call of a method, by its contract
pub data Called : Chart → Call → Chart → Answer → Type 0 where
  posted : {c : Chart} {kind : ℕ} {a b d : ℤ} (r : chart.Called Judged)
      → post-reads.Post tt (c, (kind, (a, (b, (d, tt))))) r (c, (kind, (a, (b, (d, tt)))))
      → Called c (post kind a b d) r.chart (post_says r.answer)
  reanalysed : {c : Chart} {kind : ℕ} {a b d : ℤ} (r : chart.Called Retested)
      → reanalyse-reads.Post tt (c, (kind, (a, (b, (d, tt))))) r (c, (kind, (a, (b, (d, tt)))))
      → Called c (reanalysis kind a b d) r.chart (reanalysis_says r.answer)
  corrected : {c : Chart} (r : chart.Called (Unit {0})) → correct-reads.Post tt (c, tt) r (c, tt)
      → Called c correction r.chart (correction_says r.answer)
  renewed : {c : Chart} (r : chart.Called Counts) → renew-reads.Post tt (c, tt) r (c, tt)
      → Called c renewal r.chart (renewal_says r.answer)

-- calls one after the other, from the first chart to the last
pub data Chain : Chart → List Call → List Answer → Chart → Type 0 where
  none : {c : Chart} → Chain c [] [] c
  first : {c next last : Chart} {call : Call} {answer : Answer} {calls : List Call} {answers : List Answer}
      → Called c call next answer → Chain next calls answers last → Chain c (call ∷ calls) (answer ∷ answers) last

-- the chart that goes with an accepted start
chart_of-building : (a : Outcome BuiltState) (s : State) → start_of_building a ≡ given s → chart_after a ≡ chart_of s
unfolding chart_after
chart_of-building (given b) s e = ap chart_of (same_given e)
chart_of-building (refused n) s e = given_not_refused (sym e)

chart_of-reading : (a : Outcome State) (s : State) → a ≡ given s → chart_after_reading a ≡ chart_of s
unfolding chart_after_reading
chart_of-reading a s e = ap chart_after_reading e

gives : {c next : Chart} {call : Call} {answer : Answer} → Called c call next answer → Gives c call next answer
gives (posted r p) = p
gives (reanalysed r p) = p
gives (corrected r p) = p
gives (renewed r p) = p

chain_chart : {c last : Chart} {calls : List Call} {said : List Answer} → Chain c calls said last → last ≡ chart_after_calls c calls
unfolding chart_after_calls
chain_chart none = refl
chain_chart (first {calls = calls} p rest) = chain_chart rest ∙ ap (λ (d : Chart). chart_after_calls d calls) (gives p).chart

chain_answers : {c last : Chart} {calls : List Call} {said : List Answer} → Chain c calls said last → said ≡ answers_to c calls
unfolding answers_to
chain_answers none = refl
chain_answers (first {calls = calls} p rest) =
    let more = chain_answers rest ∙ ap (λ (d : Chart). answers_to d calls) (gives p).chart in
    λ i. (gives p).says i ∷ more i

-- ---- the claim

-- from the chart that stands for a sound state
module _ (s : State) (start last : Chart) (calls : List Call) (said : List Answer) (lines : Result Lines Refusal)
    (chain : Chain start calls said last) (asked : lines-reads.Post tt (last, tt) lines (last, tt)) where
  claim_from : (floor : ℕ) → Starts floor s → start ≡ chart_of s → Claim floor s calls last said (lines_answer_says lines)
  claim_from floor h is =
      claim_of_run s calls last said (lines_answer_says lines) floor h
      (chain_chart chain ∙ ap (λ (c : Chart). chart_after_calls c calls) is)
      (chain_answers chain ∙ ap (λ (c : Chart). answers_to c calls) is) asked

-- from words that building accepts: the machine starts from the kind and the words given
pub claim_from_words : (κs : Lfts 1) (kind : ℕ) (words : Bor (List ℤ)) (b : chart.Called Counts)
    → build-reads.Post κs (kind, (words, tt)) b (kind, (words, tt))
    → (s : State) → words_start kind words.now ≡ given s
    → (calls : List Call) (said : List Answer) (last : Chart) → Chain b.chart calls said last
    → (lines : Result Lines Refusal) → lines-reads.Post tt (last, tt) lines (last, tt)
    → Claim base_wanted s calls last said (lines_answer_says lines)
claim_from_words κs kind words b builds s e calls said last chain lines asked =
    claim_from s b.chart last calls said lines chain asked base_wanted (start_of_building_lem kind words.now s e)
    (builds.chart ∙ chart_of-building (building kind words.now) s e)

-- from bytes that reading accepts
pub claim_from_bytes : (κs : Lfts 1) (bytes : Bor (List ℕ)) (r : chart.Called (Unit {0}))
    → read-reads.Post κs (bytes, tt) r (bytes, tt)
    → (s : State) → bytes_start bytes.now ≡ given s
    → (calls : List Call) (said : List Answer) (last : Chart) → Chain r.chart calls said last
    → (lines : Result Lines Refusal) → lines-reads.Post tt (last, tt) lines (last, tt)
    → Claim base_least s calls last said (lines_answer_says lines)
claim_from_bytes κs bytes r is_read s e calls said last chain lines asked =
    claim_from s r.chart last calls said lines chain asked base_least (start_of-reading bytes.now s e)
    (is_read.chart ∙ chart_of-reading (reading bytes.now) s e)

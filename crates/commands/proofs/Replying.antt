-- Laws of what a command replies: a call on the chart (`replies_call`), an inquiry (`replies_inquiry`), building (`replies_build`) and
-- reading (`replies_read`).
use mathlib.Core.Path.{◌≡◌, refl, sym, ap, ◌∙◌, subst}
use mathlib.Core.List.{List}
use Prim.Native.Nat.{ℕ}
use lib.IntN.{ℤ}
use Rattle.rules.specs.Outcome.{Outcome, given, refused}
use Rattle.rules.specs.State.{State}
use Rattle.rules.specs.Machine.{Call, Answer}
use Rattle.rules.specs.Building.{BuiltState, building}
use Rattle.rules.specs.ReadForm.{reading}
use Rattle.rules.proofs.Outcome.{given_not_refused}
use Rattle.std.specs.Prelude.{Result, Ok, Err}
use Rattle.refusals.specs.declared.Refusal.{Refusal}
use Rattle.chart.specs.declared.Chart.{Chart}
use Rattle.chart.specs.declared.Called.{Called}
use Rattle.chart.specs.declared.Counts.{Counts}
use Rattle.chart.specs.Chart.{chart_after, build_says, Builds}
use Rattle.chart.specs.Calls.{next_chart, answer_to, Gives}
use Rattle.store.specs.Store.{read_says, chart_after_reading, IsRead}
use Rattle.printing.specs.Output.{Puts}
use Rattle.replies.specs.Texts.{answer_text, building_text, reading_text}
use Rattle.commands.specs.declared.names.Inquiry.{Inquiry}
use Rattle.commands.specs.declared.names.Inquiry.TheVariants as inquiry
use Rattle.commands.specs.Command.{Command, asked, inquiry_for}
use Rattle.commands.specs.Command as command
use Rattle.commands.specs.Reply.{chart_built, chart_read, reply_to, chart_after_command}
use Rattle.commands.specs.Answers.{Replies, either_chart}
use Rattle.commands.specs.Answers as commands

-- ---- a call on the chart: the reply is what the call answers, and the chart after it is the one that the call gave back

pub replies_call : (c : Chart) (k : Command) (call : Call) {next : Chart} {answer : Answer} {before after : List ℕ} {size : ℕ}
    → reply_to c k ≡ answer_text (answer_to c call) → chart_after_command c k ≡ next_chart c call
    → Gives c call next answer → Puts before 0 (answer_text answer) after size
    → Replies c (asked k) before after (record { chart = next; size = size })
replies_call c k call {before = before} {after = after} {size = size} text chart gives puts =
    record {
      chart = gives.chart ∙ sym chart;
      text = subst (λ (x : List ℕ). Puts before 0 x after size) (ap answer_text gives.says ∙ sym text) puts;
    }

-- ---- an inquiry does not change the chart

pub inquiry_leaves : (c : Chart) (q : Inquiry) (fields : List (List ℕ)) → chart_after_command c (inquiry_for q fields) ≡ c
unfolding inquiry_for chart_after_command
inquiry_leaves c inquiry.Word fields = refl
inquiry_leaves c inquiry.Lines fields = refl
inquiry_leaves c inquiry.Write fields = refl
inquiry_leaves c inquiry.Show fields = refl

pub replies_inquiry : (c : Chart) (q : Inquiry) (fields : List (List ℕ)) {before after : List ℕ} {size : ℕ}
    → Puts before 0 (reply_to c (inquiry_for q fields)) after size
    → Replies c (asked (inquiry_for q fields)) before after (record { chart = c; size = size })
replies_inquiry c q fields puts = record { chart = sym (inquiry_leaves c q fields); text = puts }

-- ---- building and reading: a refused `build` or `read` does not change the chart

kept_build : (c built : Chart) (answer : Result Counts Refusal) (a : Outcome BuiltState)
    → built ≡ chart_after a → build_says built answer ≡ a → either_chart answer built c ≡ chart_built c a
unfolding chart_after build_says
kept_build c built (Ok counts) (given b) chart says = chart
kept_build c built (Ok counts) (refused n) chart says = given_not_refused says
kept_build c built (Err r) (given b) chart says = given_not_refused (sym says)
kept_build c built (Err r) (refused m) chart says = refl

-- building from equal kinds and equal words
pub builds_same : {kind k : ℕ} {words ws : List ℤ} {r : Called Counts} → kind ≡ k → words ≡ ws → Builds kind words r → Builds k ws r
builds_same {k = k} {words = words} {r = r} e f builds =
    subst (λ (x : List ℤ). Builds k x r) f (subst (λ (n : ℕ). Builds n words r) e builds)

pub replies_build : (c : Chart) (kind : ℕ) (words : List ℤ) (r : Called Counts) {next : Chart} {before after : List ℕ} {size : ℕ}
    → Builds kind words r → next ≡ commands.chart_kept c r
    → Puts before 0 (building_text (build_says r.chart r.answer)) after size
    → Replies c (asked (command.build kind words)) before after (record { chart = next; size = size })
unfolding reply_to chart_after_command commands.chart_kept
replies_build c kind words r {before = before} {after = after} {size = size} builds kept puts =
    record {
      chart = kept ∙ kept_build c r.chart r.answer (building kind words) builds.chart builds.says;
      text = subst (λ (a : Outcome BuiltState). Puts before 0 (building_text a) after size) builds.says puts;
    }

kept_read : (c held : Chart) (answer : Result (Unit {0}) Refusal) (a : Outcome State)
    → held ≡ chart_after_reading a → read_says held answer ≡ a → either_chart answer held c ≡ chart_read c a
unfolding chart_after_reading read_says
kept_read c held (Ok _) (given s) chart says = chart
kept_read c held (Ok _) (refused n) chart says = given_not_refused says
kept_read c held (Err r) (given s) chart says = given_not_refused (sym says)
kept_read c held (Err r) (refused m) chart says = refl

pub replies_read : (c : Chart) (bytes : List ℕ) (r : Called (Unit {0})) {next : Chart} {before after : List ℕ} {size : ℕ}
    → IsRead (reading bytes) r → next ≡ commands.chart_kept c r
    → Puts before 0 (reading_text (read_says r.chart r.answer)) after size
    → Replies c (asked (command.read bytes)) before after (record { chart = next; size = size })
unfolding reply_to chart_after_command commands.chart_kept
replies_read c bytes r {before = before} {after = after} {size = size} is kept puts =
    record {
      chart = kept ∙ kept_read c r.chart r.answer (reading bytes) is.chart is.says;
      text = subst (λ (a : Outcome State). Puts before 0 (reading_text a) after size) is.says puts;
    }

-- `outcomes::status::exit_status` meets its contract.
use mathlib.Core.Path.{◌≡◌, sym, ◌∙◌}
use mathlib.Core.Bool.{false}
use Rattle.parsing.specs.Text.{begins}
use Rattle.printing.specs.Ascii.{ascii}
use Rattle.outcomes.specs.Status.{status_of}
use Rattle.outcomes.proofs.status.exit_status.Goals as goal

pub returns-then-begins_with : goal.returns-then-begins_with
unfolding status_of
returns-then-begins_with c = rw (sym c.begins_with.ensures ∙ c.if-begins_with.true)

pub returns-then-begins_with-2 : goal.returns-then-begins_with-2
unfolding status_of
returns-then-begins_with-2 c =
    let no_error : begins c.args.answer.now (ascii "error") ≡ false = sym c.begins_with.ensures ∙ c.if-begins_with.false in
    rw (no_error, sym c.begins_with-2.ensures ∙ c.if-begins_with-2.true)

pub returns-then-holds_batch : goal.returns-then-holds_batch
unfolding status_of
returns-then-holds_batch c =
    let no_error : begins c.args.answer.now (ascii "error") ≡ false = sym c.begins_with.ensures ∙ c.if-begins_with.false in
    let no_refusal : begins c.args.answer.now (ascii "refused") ≡ false = sym c.begins_with-2.ensures ∙ c.if-begins_with-2.false in
    rw (no_error, no_refusal, sym c.holds_batch.ensures ∙ c.if-holds_batch.true)

pub returns : goal.returns
unfolding status_of
returns c =
    let no_error : begins c.args.answer.now (ascii "error") ≡ false = sym c.begins_with.ensures ∙ c.if-begins_with.false in
    let no_refusal : begins c.args.answer.now (ascii "refused") ≡ false = sym c.begins_with-2.ensures ∙ c.if-begins_with-2.false in
    rw (no_error, no_refusal, sym c.holds_batch.ensures ∙ c.if-holds_batch.false)

-- Laws of what a line is: too long (`too_long`), passed over (`no_field` and `a_comment`, `nothing_there` and `comment_there`,
-- `nothing_said`), with a fault (`a_fault`), without a fault (`without_fault`). A law of the line feed after a reply (`line_fed`).
use mathlib.Core.Path.{◌≡◌, refl, ap, ◌∙◌}
use mathlib.Core.Bool.{true, false}
use mathlib.Core.List.{List, [], ◌∷◌, ◌++◌}
use Prim.Native.Nat.{ℕ, ◌≤◌, ◌<◌}
use native.Mathlib.Omega.{arith}
use borrow.Author.Tests.{lt-leb, le-leb}
use lib.ListN.{length, get_or}
use lib.Dec.{eqb}
use Rattle.chart.specs.declared.Chart.{Chart}
use Rattle.parsing.specs.Fields.{fields_of, IsFirstField, IsSplit, SplitAt}
use Rattle.printing.specs.Output.{Puts}
use Rattle.printing.proofs.Putting.{puts_none, puts_then}
use Rattle.replies.specs.declared.Fault.{Fault}
use Rattle.replies.specs.declared.Fault.TheVariants as faults
use Rattle.commands.specs.declared.names.Name.{Name}
use Rattle.commands.specs.declared.names.Name.TheVariants as name
use Rattle.std.specs.Prelude.{Ok, Err}
use Rattle.commands.specs.Command.{Finding, passed_over, faulty, line_most, command_for, fault_for, name_in, named_line, line_of, line_in}
use Rattle.commands.specs.Reply.{reply_to_line, answer_to_line}
use Rattle.commands.specs.Answers.{Answers, Replies}
use Rattle.commands.proofs.Fields.{none_found, one_found, comment_found, places_count, first_byte, comment_is}

pub too_long : (text : List ℕ) → line_most < length text → line_in text ≡ faulty faults.LineTooLong
unfolding line_in
too_long text h = rw (lt-leb (length text) line_most h)

by_fields : (text : List ℕ) → length text ≤ line_most → line_in text ≡ line_of (fields_of text)
unfolding line_in
by_fields text short = rw (le-leb (length text) line_most short)

-- by the places of the first field
module _ (text : List ℕ) (start end : ℕ) (short : length text ≤ line_most) (f : IsFirstField text start end) where
  pub no_field : start ≡ end → line_in text ≡ passed_over
  unfolding line_of
  no_field e = by_fields text short ∙ ap line_of (none_found f (omega arith))

  pub a_comment : start < end → eqb (get_or text start 0) 35 ≡ true → line_in text ≡ passed_over
  unfolding line_of
  a_comment some e = by_fields text short ∙ ap line_of (one_found f some) ∙ rw (comment_found f some, e)

-- by the first field itself, and its places
module _ (text first rest : List ℕ) (short : length text ≤ line_most) (split : SplitAt text first rest) where
  pub no_field_found : length first ≡ 0 → line_in text ≡ passed_over
  no_field_found none =
      no_field text split.start split.end short split.first (omega (arith, places_count split, split.first.ordered))

  pub comment_found_first : 0 < length first → eqb (get_or first 0 0) 35 ≡ true → line_in text ≡ passed_over
  comment_found_first some e =
      a_comment text split.start split.end short split.first (omega (arith, places_count split)) (rw (first_byte split some) at e)

-- by the first field itself
module _ (text first rest : List ℕ) (short : length text ≤ line_most) (split : IsSplit text first rest) where
  pub nothing_there : length first ≡ 0 → line_in text ≡ passed_over
  unfolding line_of
  nothing_there none = by_fields text short ∙ ap line_of (split.none none).0

  module _ (some : 0 < length first) where
    pub comment_there : eqb (get_or first 0 0) 35 ≡ true → line_in text ≡ passed_over
    unfolding line_of
    comment_there e = by_fields text short ∙ ap line_of (split.some some) ∙ rw (comment_is first some, e)

    -- a command, by its name and the fault of the fields after it
    module _ (e : eqb (get_or first 0 0) 35 ≡ false) (n : Name) (named : n ≡ name_in first)
        (found : Finding) (is_found : found ≡ fault_for n (fields_of rest)) where
      a_command : line_in text ≡ named_line n (fields_of rest)
      unfolding line_of
      a_command = by_fields text short ∙ ap line_of (split.some some) ∙ rw (comment_is first some, e, ← named)

      pub a_fault : {fault : Fault} → found ≡ Err fault → line_in text ≡ faulty fault
      unfolding named_line
      a_fault is = a_command ∙ rw (← is_found, is)

      pub without_fault : {u : Unit {0}} → found ≡ Ok u → line_in text ≡ command_for n (fields_of rest)
      unfolding named_line
      without_fault none = a_command ∙ rw (← is_found, none)

-- a line that is passed over has no answer
pub nothing_said : (text : List ℕ) {c : Chart} (out : List ℕ) → line_in text ≡ passed_over
    → Answers c (line_in text) out out (record { chart = c; size = 0 })
nothing_said text out passed = rw passed (record { chart = refl; text = puts_none _ _ })

-- a line feed follows the reply to a command
line_feed_lem : (c : Chart) (n : Name) (fields : List (List ℕ))
    → reply_to_line c (command_for n fields) ++ (10 ∷ []) ≡ answer_to_line c (command_for n fields)
unfolding command_for
line_feed_lem c (name.Changes change) fields = refl
line_feed_lem c (name.Asks inquiry) fields = refl
line_feed_lem c name.Other fields = refl

pub line_fed : (c : Chart) (n : Name) (fields : List (List ℕ)) {next : Chart} {before between after : List ℕ} {middle size : ℕ}
    → Replies c (command_for n fields) before between (record { chart = next; size = middle })
    → Puts between middle (10 ∷ []) after size
    → Answers c (command_for n fields) before after (record { chart = next; size = size })
line_fed c n fields replies feed =
    record { chart = replies.chart; text = rw (line_feed_lem c n fields) at (puts_then replies.text feed) }

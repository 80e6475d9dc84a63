-- How long the texts can be, if the paper's words, counts, verdicts and refusals in them have at most five digits. How long a chart's lines
-- can be, for any doubles, and bytes in hex digits.
use mathlib.Core.Path.{◌≡◌, refl}
use mathlib.Core.Bool.{Bool, true, false}
use mathlib.Core.List.{List}
use Prim.Native.Nat.{ℕ, ◌+◌, ◌*◌, ◌^◌, ◌<◌, ◌≤◌}
use native.Mathlib.Omega.{arith}
use lib.Dec.{lit≤}
use lib.ListN.{length, get_or, length-append}
use lib.IntN.{ℤ, pos, nat_abs}
use lib.Ieee.{Float}
use Rattle.rules.specs.Outcome.{Outcome, given}
use Rattle.rules.specs.Outcome as outcome
use Rattle.rules.specs.State.{State}
use Rattle.rules.specs.Building.{BuiltState}
use Rattle.rules.specs.Machine.{Answer, judged, reanalysed, corrected, renewed, refused}
use Rattle.rules.specs.ChartLines.{Lines, duplicate, two_sided}
use Rattle.lines.specs.Lines.{parts_held}
use Rattle.lines.proofs.PartsHeld.{held_small}
use Rattle.printing.specs.Decimal.{decimal}
use Rattle.printing.proofs.Digits.{decimal-length, signed-length, spaced_words-length, parts_length}
use Rattle.printing.proofs.HexDigits.{hex_length}
use Rattle.printing.specs.Ascii.{ascii}
use Rattle.replies.specs.declared.Fault.{Fault}
use Rattle.replies.specs.declared.Fault.TheVariants as fault
use Rattle.replies.specs.Faults.{fault_text}
use Rattle.replies.specs.Texts.{refusal_text, word_text, rounds_text, outcome_text, formed_text, building_text, answer_text}
use Rattle.replies.specs.Texts.{reading_text, chart_line_text, lines_text, bytes_text, list_text, state_text}

-- n has at most five digits, as every number that is stored in two bytes has
abbrev pub Short : ℕ → Type 0
Short n = n < 10 ^ 5

digits : (n : ℕ) → Short n → length (decimal n) ≤ 5
digits n h = decimal-length 5 n h (omega arith)

pub refusal_length : (n : ℕ) → Short n → length (refusal_text n) ≤ 13
unfolding refusal_text
refusal_length n h = rw length-append (omega (arith, digits n h))

word_length : (w : ℤ) → Short (nat_abs w) → length (word_text w) ≤ 11
unfolding word_text
word_length w h = rw length-append (omega (arith, signed-length 5 w h (omega arith)))

rounds_length : (rounds removed : ℕ) → Short rounds → Short removed → length (rounds_text rounds removed) ≤ 26
unfolding rounds_text
rounds_length rounds removed h k =
    rw (length-append, length-append, length-append) (omega (arith, digits rounds h, digits removed k))

outcome_length : (passed : Bool) → length (outcome_text passed) ≡ 7
outcome_length true = refl
outcome_length false = refl

-- ---- what the calls answer

abbrev pub ShortFormed : Outcome ℤ → Type 0
ShortFormed (given w) = Short (nat_abs w)
ShortFormed (outcome.refused n) = Short n

pub formed_length : (f : Outcome ℤ) → ShortFormed f → length (formed_text f) ≤ 40
formed_length (given w) h = omega (arith, word_length w h)
formed_length (outcome.refused n) h = omega (arith, refusal_length n h)

abbrev pub ShortBuilding : Outcome BuiltState → Type 0
ShortBuilding (given b) = Short b.rounds × Short b.removed
ShortBuilding (outcome.refused n) = Short n

pub building-length : (a : Outcome BuiltState) → ShortBuilding a → length (building_text a) ≤ 40
building-length (given b) h = rw length-append (omega (arith, rounds_length b.rounds b.removed h.0 h.1))
building-length (outcome.refused n) h = omega (arith, refusal_length n h)

abbrev pub ShortAnswer : Answer → Type 0
ShortAnswer (judged w v) = Short (nat_abs w) × Short v
ShortAnswer (reanalysed w passed) = Short (nat_abs w)
ShortAnswer corrected = Unit
ShortAnswer (renewed rounds removed) = Short rounds × Short removed
ShortAnswer (refused n) = Short n

pub answer_length : (a : Answer) → ShortAnswer a → length (answer_text a) ≤ 40
answer_length (judged w v) h =
    rw (length-append, length-append) (omega (arith, word_length w h.0, digits v h.1))
answer_length (reanalysed w passed) h = rw length-append (omega (arith, word_length w h, outcome_length passed))
answer_length corrected h = lit≤ tt
answer_length (renewed rounds removed) h = rw length-append (omega (arith, rounds_length rounds removed h.0 h.1))
answer_length (refused n) h = omega (arith, refusal_length n h)

abbrev pub ShortReading : Outcome State → Type 0
ShortReading (given s) = Unit
ShortReading (outcome.refused n) = Short n

pub reading-length : (a : Outcome State) → ShortReading a → length (reading_text a) ≤ 40
reading-length (given s) h = lit≤ tt
reading-length (outcome.refused n) h = omega (arith, refusal_length n h)

-- ---- lines: for any doubles, the numbers read off them fit 64 bits

line_length : (x : Float) → length (chart_line_text x) ≤ 31
unfolding chart_line_text
line_length x = rw length-append (omega (arith, parts_length (parts_held x) (omega (arith, held_small x))))

abbrev pub ShortLines : Outcome Lines → Type 0
ShortLines (given l) = Unit
ShortLines (outcome.refused n) = Short n

pub lines_length : (a : Outcome Lines) → ShortLines a → length (lines_text a) ≤ 160
lines_length (given (duplicate mean upper_warning upper_control)) h =
    rw (length-append, length-append, length-append) (omega (arith, line_length mean, line_length upper_warning, line_length upper_control))
lines_length (given (two_sided mean lower_warning upper_warning lower_control upper_control)) h =
    rw (length-append, length-append, length-append, length-append, length-append)
    (omega (
      arith,
      line_length mean,
      line_length lower_warning,
      line_length upper_warning,
      line_length lower_control,
      line_length upper_control,
    ))
lines_length (outcome.refused n) h = omega (arith, refusal_length n h)

-- ---- a stored form, and a chart

pub bytes_length : (bytes : List ℕ) → Short (length bytes) → length (bytes_text bytes) ≤ 12 + 2 * length bytes
unfolding bytes_text
bytes_length bytes h =
    rw (length-append, length-append, length-append) (omega (arith, digits (length bytes) h, hex_length bytes))

-- words of at most five digits
abbrev pub ShortWords : List ℤ → Type 0
ShortWords ws = (i : ℕ) → i < length ws → Short (nat_abs (get_or ws i (pos 0)))

list_length : (name : List ℕ) (ws : List ℤ) → Short (length ws) → ShortWords ws
    → length (list_text name ws) ≤ length name + 5 + 7 * length ws
unfolding list_text
list_length name ws h k =
    rw (length-append, length-append) (omega (arith, digits (length ws) h, spaced_words-length ws k))

-- the numbers of a state
pub record ShortState (s : State) : Type 0 where
  pub kind : Short s.kind
  pub status : Short s.status
  pub verdict : Short s.open_verdict
  pub base_count_lem : Short (length s.base)
  pub series_count_lem : Short (length s.series)
  pub base : ShortWords s.base
  pub series : ShortWords s.series

pub state-length : (s : State) → ShortState s → length (state_text s) ≤ 69 + 7 * length s.base + 7 * length s.series
unfolding state_text
state-length s h =
    rw (length-append, length-append, length-append, length-append, length-append, length-append, length-append)
    (omega (
      arith,
      digits s.kind h.kind,
      digits s.status h.status,
      digits s.open_verdict h.verdict,
      list_length (ascii " base ") s.base h.base_count_lem h.base,
      list_length (ascii " series ") s.series h.series_count_lem h.series,
    ))

-- ---- the texts of faults

pub fault_length : (f : Fault) → length (fault_text f) ≤ 80
fault_length fault.UnknownCommand = lit≤ tt
fault_length fault.MissingNumber = lit≤ tt
fault_length fault.ExtraNumber = lit≤ tt
fault_length fault.NotANumber = lit≤ tt
fault_length fault.NumberTooLarge = lit≤ tt
fault_length fault.NotAHexDigit = lit≤ tt
fault_length fault.OddHexDigits = lit≤ tt
fault_length fault.LineTooLong = lit≤ tt

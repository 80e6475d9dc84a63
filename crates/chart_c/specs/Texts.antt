-- Texts for C, in a lent buffer: what a refusal's number and a verdict mean, and the version.
use Rattle.std.specs.Prelude.{◌≡◌, List, [], ◌∷◌, ◌++◌, ℕ, length, ltb}
use Rattle.rules.specs.Outcome.{Outcome, given, refused}
use Rattle.rules.specs.Choice.{require}
use Rattle.rules.specs.Buffer.{at_front}
use Rattle.chart_c.specs.Lent.{answered_number, lent_after}

-- a string of C ends with a 0 byte
abbrev pub string_of : List ℕ → List ℕ
string_of text = text ++ (0 ∷ [])

-- a buffer without room for the text and the 0 byte is refused with 15
unfoldable pub text_into : List ℕ → List ℕ → Outcome (List ℕ)
text_into buffer text = require (ltb (length text) (length buffer)) (refused 15) (given text)

-- the string goes to the front of the buffer
pub record PutsText (text before after : List ℕ) (number : ℕ) : Type 0 where
  pub answered : number ≡ answered_number (text_into before text)
  pub buffer : after ≡ lent_after (λ (t : List ℕ). at_front (string_of t) before) before (text_into before text)

-- What the numbers of refusals and verdicts mean, as text, and the version. The program shows these texts in its help, and the C interface
-- gives them. `include/control_chart.h` and `docs/REFUSALS.md` repeat them.
use Rattle.std.specs.Prelude.{List, [], ◌∷◌, ℕ, get_or}
use Rattle.printing.specs.Ascii.{ascii}

-- "Numbers for what is declined", from 0 on. 0 is not a refusal
unfoldable pub refusal_texts : List (List ℕ)
refusal_texts =
    ascii "done"
    ∷ ascii "the kind is not 1, 2 or 3"
    ∷ ascii "there are not 15 to 32 words"
    ∷ ascii "a word given for the base is out of range"
    ∷ ascii "the reading is of another kind than the chart"
    ∷ ascii "a reading is not in 0..1000000000"
    ∷ ascii "the divisor is 0"
    ∷ ascii "the word is out of range"
    ∷ ascii "a reanalysis or a correction is due"
    ∷ ascii "the series is full: it has 366 words"
    ∷ ascii "no reanalysis is due"
    ∷ ascii "no correction is due"
    ∷ ascii "base and series together have fewer than 15 words"
    ∷ ascii "the bytes are not a stored form"
    ∷ ascii "there is no chart, or it is not sound"
    ∷ ascii "the buffer is too short"
    ∷ ascii "fewer than 15 words stand after rejection"
    ∷ []

-- every number from 17 on has the text "no such number"
unfoldable pub refusal_meaning : ℕ → List ℕ
refusal_meaning n = get_or refusal_texts n (ascii "no such number")

-- the verdicts on a post, from 0 on
unfoldable pub verdict_texts : List (List ℕ)
verdict_texts =
    ascii "none"
    ∷ ascii "beyond a control limit"
    ∷ ascii "two in a row beyond the warning limit on one side"
    ∷ ascii "seven in a row rising or falling"
    ∷ ascii "seven in a row on one side of the mean"
    ∷ []

-- every number from 5 on has the text "no such verdict"
unfoldable pub verdict_meaning : ℕ → List ℕ
verdict_meaning n = get_or verdict_texts n (ascii "no such verdict")

-- the version of the library and the program
unfoldable pub version : List ℕ
version = ascii "1.3.0"

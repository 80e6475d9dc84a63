-- Document 01, "Stored form": the bytes of a state, and what writing them into a buffer gives. In a sound state every number is below
-- 65536, so every number of its form is a byte.
use Rattle.std.specs.Prelude.{Bool, List, [], ◌∷◌, ◌++◌, map, ℕ, length, leb}
use Rattle.rules.specs.Choice.{require}
use Rattle.rules.specs.Outcome.{Outcome, given, refused}
use Rattle.rules.specs.State.{State}
use Rattle.rules.specs.Bytes.{bytes_of, number_of}
use Rattle.rules.specs.Buffer.{at_front}

-- "Each starts with its length (bytes after the length itself), then its record kind", and then its numbers
unfoldable pub record_of : ℕ → List ℕ → List ℕ
record_of record_kind numbers =
    let body = bytes_of (record_kind ∷ numbers) in
    bytes_of (length body ∷ []) ++ body

-- "Record kind 1: length 8; chart kind, status, open verdict."
unfoldable pub head_numbers : State → List ℕ
head_numbers s = s.kind ∷ s.status ∷ s.open_verdict ∷ []

-- "Record kind 2: the 10..32 base words. Record kind 3: the 0..366 series words. They stand in this order and nothing follows."
unfoldable pub stored_form : State → List ℕ
stored_form s =
    record_of 1 (head_numbers s)
    ++ (record_of 2 (map number_of s.base)
    ++ record_of 3 (map number_of s.series))

-- ---- writing the form of a sound chart. Refusal 14 comes first, and is about the program's chart (`store/specs/Store`)

-- the buffer is not "shorter than the stored form"
unfoldable pub form_fits : State → List ℕ → Bool
form_fits s buffer = leb (length (stored_form s)) (length buffer)

-- "Writing answers the number of bytes". 15 "write: buffer shorter than the stored form"
unfoldable pub writing : State → List ℕ → Outcome ℕ
writing s buffer = require (form_fits s buffer) (refused 15) (given (length (stored_form s)))

-- the buffer after writing: the form at its front, and "those after the form untouched". A refusal changes no byte
unfoldable pub buffer_after : State → List ℕ → List ℕ
buffer_after s buffer = require (form_fits s buffer) buffer (at_front (stored_form s) buffer)

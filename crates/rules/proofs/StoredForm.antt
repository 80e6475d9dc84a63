-- The stored form of a sound state is bytes (`stored_bytes`): each is below 256, because every stored number is below 65536.
use mathlib.Core.Path.{◌≡◌}
use mathlib.Core.Bool.{true}
use mathlib.Core.List.{List, [], ◌∷◌, ◌++◌, map}
use Prim.Native.Nat.{ℕ, ◌<◌}
use native.Mathlib.Omega.{arith}
use lib.ListN.{length, length-map}
use lib.Dec.{leb}
use lib.IntN.{ℤ, pos, negsuc}
use borrow.Author.Tests.{leb-true}
use Rattle.rules.specs.Kind.{is_kind, in_range}
use Rattle.rules.specs.AllOf.{all_of}
use Rattle.rules.specs.Building.{all_in_range}
use Rattle.rules.specs.State.{State}
use Rattle.rules.specs.Soundness.{sound}
use Rattle.rules.specs.Bytes.{bytes_of, number_of}
use Rattle.rules.specs.StoredForm.{record_of, head_numbers, stored_form}
use Rattle.rules.proofs.Booleans.{both}
use Rattle.rules.proofs.Kind.{in_range_few}
use Rattle.rules.proofs.Bytes.{length_bytes}
use Rattle.rules.proofs.Soundness.{FreeOrOpen, free, opened, sound_facts, status_facts}

-- every number of the list is below n
abbrev pub AllBelow : ℕ → List ℕ → Type 0
AllBelow n [] = Unit
AllBelow n (x ∷ xs) = (x < n) × AllBelow n xs

below_joined : (n : ℕ) (xs ys : List ℕ) → AllBelow n xs → AllBelow n ys → AllBelow n (xs ++ ys)
below_joined n [] ys h k = k
below_joined n (x ∷ xs) ys (first, others) k = (first, below_joined n xs ys others k)

bytes_below : (ns : List ℕ) → AllBelow 65536 ns → AllBelow 256 (bytes_of ns)
unfolding bytes_of
bytes_below [] h = tt
bytes_below (n ∷ ns) (first, others) = (omega arith, (omega (arith, first), bytes_below ns others))

number_below : (kind : ℕ) (w : ℤ) → in_range kind w ≡ true → number_of w < 65536
unfolding number_of
number_below kind (pos n) r = omega (arith, in_range_few kind (pos n) r)
number_below kind (negsuc n) r = omega arith

words_below : (kind : ℕ) (ws : List ℤ) → all_in_range kind ws ≡ true → AllBelow 65536 (map number_of ws)
unfolding all_in_range all_of
words_below kind [] h = tt
words_below kind (w ∷ ws) h =
    let (first, others) = both (in_range kind w) (all_of (in_range kind) ws) h in (number_below kind w first, words_below kind ws others)

record_below : (record_kind : ℕ) (ns : List ℕ) → record_kind < 65536 → length ns < 1000 → AllBelow 65536 ns
    → AllBelow 256 (record_of record_kind ns)
unfolding record_of
record_below record_kind ns k few h =
    let body = bytes_of (record_kind ∷ ns) in
    below_joined 256 (bytes_of (length body ∷ [])) body
    (bytes_below (length body ∷ []) (omega (arith, length_bytes (record_kind ∷ ns)), tt))
    (bytes_below (record_kind ∷ ns) (k, h))

-- status and open verdict are 0, or at most 2 and 4
status_below : (s : State) → FreeOrOpen s → (s.status < 65536) × (s.open_verdict < 65536)
status_below s (free e v) = (omega arith, omega arith)
status_below s (opened facts) = (omega (arith, facts.status_most), omega (arith, facts.verdict_most))

kind_below : (kind : ℕ) → is_kind kind ≡ true → kind < 65536
unfolding is_kind
kind_below kind h = let (least, most) = both (leb 1 kind) (leb kind 3) h in omega (arith, leb-true kind 3 most)

pub stored_bytes : (s : State) → sound s ≡ true → AllBelow 256 (stored_form s)
unfolding stored_form head_numbers
stored_bytes s h =
    let facts = sound_facts s h in
    let (status, verdict) = status_below s (status_facts s h) in
    let base = map number_of s.base in
    let series = map number_of s.series in
    below_joined 256 (record_of 1 (head_numbers s)) (record_of 2 base ++ record_of 3 series)
    (record_below 1 (head_numbers s) (omega arith) (omega arith) (kind_below s.kind facts.is_kind_lem, (status, (verdict, tt))))
    (below_joined 256 (record_of 2 base) (record_of 3 series)
    (record_below 2 base (omega arith) (omega (arith, length-map s.base number_of, facts.base_most_lem))
    (words_below s.kind s.base facts.base_in_range))
    (record_below 3 series (omega arith) (omega (arith, length-map s.series number_of, facts.series_most_lem))
    (words_below s.kind s.series facts.series_in_range)))

-- Document 02, Q-5, "Sums carried between rounds": what each round of rejection is given, and what it hands on. The number of rounds is
-- that of `Rejection`. `proofs/Carried` proves that the words and the removals "come out as before" too: `given_own`, `last_standing`,
-- `removed_as_before`.
use Rattle.std.specs.Prelude.{◌≡◌, Bool, List, [], ◌∷◌, ℕ, zero, suc, ◌+◌, ◌-◌, ◌<◌, length, ℤ, ◌-ℤ◌}
use Rattle.rules.specs.Choice.{choose}
use Rattle.rules.specs.Limits.{Sums, sum_of, sum_of_squares, sums_of, beyond_control}
use Rattle.rules.specs.Rejection.{without, after_round, rejection}

-- the words that pass the test, in their old order
unfoldable pub only : (ℤ → Bool) → List ℤ → List ℤ
only test [] = []
only test (w ∷ ws) = choose (test w) (w ∷ only test ws) (only test ws)

-- "T and Q less the removed words". n falls too, by the number of words. T rises if their sum is negative
unfoldable pub less_words : Sums → List ℤ → Sums
less_words s ws = record { n = s.n - length ws; t = s.t -ℤ sum_of ws; q = s.q -ℤ sum_of_squares ws }

-- what a round is given: n, T and Q, and the words then standing. The sums need not be those of the words. If they are not, a round that
-- sums afresh hands on something else than `handed_on`
pub record Given : Type 0 where
  pub sums : Sums
  pub words : List ℤ

-- whether a word is beyond the control limits by the sums that the round is given
unfoldable pub beyond_given : ℕ → Given → ℤ → Bool
beyond_given kind g w = beyond_control (record { kind = kind; sums = g.sums }) w

-- "the removed words" of a round
unfoldable pub removed_words : ℕ → Given → List ℤ
removed_words kind g = only (beyond_given kind g) g.words

-- what a round hands on to the next one: the sums that it was given less the words that it removes, and the words that it leaves
unfoldable pub handed_on : ℕ → Given → Given
handed_on kind g =
    record { sums = less_words g.sums (removed_words kind g); words = without (beyond_given kind g) g.words }

-- the first round is given this: the words with their own n, T and Q
unfoldable pub with_own_sums : List ℤ → Given
with_own_sums words = record { sums = sums_of words; words = words }

-- what a number of rounds have, one after the other: the first has x, and each round after it has what `next` makes of the one before
unfoldable pub in_rounds {ℓ} : {A : Type ℓ} → ℕ → (A → A) → A → List A
in_rounds zero next x = []
in_rounds (suc rounds) next x = x ∷ in_rounds rounds next (next x)

-- what each round of rejection is given, from the first to the last: "each round after the first is given T and Q less the removed words"
unfoldable pub given_to_rounds : ℕ → List ℤ → List Given
given_to_rounds kind words = in_rounds (rejection kind words).rounds (handed_on kind) (with_own_sums words)

-- gs is what the rounds are given, if the first is given g: each round after it is given what the one before hands on, and the first that
-- removes nothing is the last. For the words with their own sums `given_to_rounds` has this property (`are_given`), and no other list has it
-- (`given_only`)
pub data AreGiven (kind : ℕ) : Given → List Given → Type 0 where
  last : {g : Given} → length (handed_on kind g).words ≡ length g.words → AreGiven kind g (g ∷ [])
  more : {g : Given} {gs : List Given} → length (handed_on kind g).words < length g.words → AreGiven kind (handed_on kind g) gs
      → AreGiven kind g (g ∷ gs)

-- ---- terms of the laws

-- "the words then standing" in each round of rejection, by document 01. `given_own` proves "for every round that what it is given equals T
-- and Q of the words then standing"
unfoldable pub standing_in_rounds : ℕ → List ℤ → List (List ℤ)
standing_in_rounds kind words = in_rounds (rejection kind words).rounds (after_round kind) words

-- the number of words removed by rounds that are given these
unfoldable pub number_removed : ℕ → List Given → ℕ
number_removed kind [] = 0
number_removed kind (g ∷ gs) = length (removed_words kind g) + number_removed kind gs

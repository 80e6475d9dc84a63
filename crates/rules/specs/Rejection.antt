-- Document 01, "Base, limits, rejection": rejection in rounds. The words that it leaves, the number of rounds, and the number of words
-- removed.
use Rattle.std.specs.Prelude.{Bool, List, [], ◌∷◌, ℕ, zero, suc, ◌+◌, ◌-◌, length, eqb, ℤ}
use Rattle.rules.specs.Choice.{choose}
use Rattle.rules.specs.Limits.{limits_of, beyond_control}

-- the words without those that pass the test, "in their old order"
unfoldable pub without : (ℤ → Bool) → List ℤ → List ℤ
without test [] = []
without test (w ∷ ws) = choose (test w) (without test ws) (w ∷ without test ws)

-- the words left after a round: "In each round all words beyond the control limits are removed together"
unfoldable pub after_round : ℕ → List ℤ → List ℤ
after_round kind words = without (beyond_control (limits_of kind words)) words

-- what rejection leaves, the rounds that it takes, and the number of words that the rounds remove
pub record RejectionAnswer : Type 0 where
  pub base : List ℤ
  pub rounds : ℕ
  pub removed : ℕ

-- "The first round that removes nothing is the last and is counted."
abbrev pub last_round : List ℤ → RejectionAnswer
last_round words = record { base = words; rounds = 1; removed = 0 }

-- a round that removes `number` words, followed by the rounds of r
abbrev pub one_more_round : ℕ → RejectionAnswer → RejectionAnswer
one_more_round number r = record { base = r.base; rounds = r.rounds + 1; removed = r.removed + number }

-- "and the limits worked out anew from the rest": rejection "calls itself on the words left, whose number falls". So one round more than
-- there are words is enough, and `rejection` never reaches the first clause. `proofs/Rejection` proves the two equations that a reader
-- expects, `rejection-ends` and `rejection_goes_on`
unfoldable pub rejection_within : ℕ → ℕ → List ℤ → RejectionAnswer
rejection_within zero kind words = last_round words
rejection_within (suc allowed) kind words =
    choose (eqb (length (after_round kind words)) (length words))
    (last_round words)
    (one_more_round (length words - length (after_round kind words)) (rejection_within allowed kind (after_round kind words)))

unfoldable pub rejection : ℕ → List ℤ → RejectionAnswer
rejection kind words = rejection_within (suc (length words)) kind words

-- ---- a term of the laws of rejection

-- the first list has some of the words of the second, in their old order
pub data InOrder : List ℤ → List ℤ → Type 0 where
  none : InOrder [] []
  kept : {w : ℤ} {some words : List ℤ} → InOrder some words → InOrder (w ∷ some) (w ∷ words)
  removed : {w : ℤ} {some words : List ℤ} → InOrder some words → InOrder some (w ∷ words)

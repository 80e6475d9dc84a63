-- What the functions of rejection give, in terms of the paper's rejection and of the sums that its rounds are given.
use Rattle.std.specs.Prelude.{◌≡◌, Bool, not, List, [], ◌∷◌, map, ℕ, ◌≤◌, length, take, ℤ, pos}
use Rattle.rules.specs.Sizes.{base_most}
use Rattle.rules.specs.Choice.{choose}
use Rattle.rules.specs.Rejection as rules
use Rattle.rules.specs.Carried.{Given, removed_words, handed_on}
use Rattle.limits.specs.declared.Sums.{Sums}
use Rattle.limits.specs.Bounded.{Bounded}
use Rattle.limits.specs.Sums.{sums_say, AreSums, Removable}
use Rattle.chart.specs.declared.rejection.Standing.{Standing}
use Rattle.chart.specs.declared.rejection.RejectionAnswer.{RejectionAnswer}
use Rattle.chart.specs.declared.rejection.HandedOn.{HandedOn}
use Rattle.chart.specs.Pad.{pad}

-- the words whose mark is true
unfoldable pub marked : List Bool → List ℤ → List ℤ
marked [] ws = []
marked (m ∷ ms) [] = []
marked (m ∷ ms) (w ∷ ws) = choose m (w ∷ marked ms ws) (marked ms ws)

-- the words whose mark is false
unfoldable pub without_marked : List Bool → List ℤ → List ℤ
without_marked ms ws = marked (map not ms) ws

-- the places hold these words, and 0 after them
pub record HoldsWords (ws : List ℤ) (s : Standing) : Type 0 where
  pub words : s.words ≡ pad (pos 0) base_most ws
  pub count : s.n ≡ length ws

-- r says what the paper's answer a says: the words left, the rounds and the number removed
pub record IsRejection (a : rules.RejectionAnswer) (r : RejectionAnswer) : Type 0 where
  pub left : HoldsWords a.base r.left
  pub rounds : r.rounds ≡ a.rounds
  pub removed : r.removed ≡ a.removed

-- ---- a round, over any sums that it is given: document 02, Q-5

-- what a round is given
abbrev pub given_says : List ℤ → Sums → Given
given_says ws s = record { sums = sums_say s; words = ws }

-- words can be compared with the limits of the sums given, and those beyond them can be taken away from the sums
pub record CanRemove (kind : ℕ) (ws : List ℤ) (s : Sums) : Type 0 where
  pub bounded : Bounded s
  pub removable : Removable (removed_words kind (given_says ws s)) s

-- words in the first n places, and their own sums
pub record WithOwnSums (n : ℕ) (places : List ℤ) (s : Sums) : Type 0 where
  pub few : n ≤ base_most
  pub own : AreSums (take n places) s

-- marked words in the first n places, which can be taken away from the sums
pub record CanTake (n : ℕ) (marks : List Bool) (places : List ℤ) (s : Sums) : Type 0 where
  pub few : n ≤ base_most
  pub removable : Removable (marked (take n marks) (take n places)) s

-- r is what a round that is given g hands on: the words left, and the sums given less the words removed
pub record HandsOn (kind : ℕ) (g : Given) (r : HandedOn) : Type 0 where
  pub left : HoldsWords (handed_on kind g).words r.left
  pub sums : sums_say r.sums ≡ (handed_on kind g).sums

-- Laws of sums carried between rounds: document 02, Q-5. `given_own`: each round of rejection is given the words that stand in it, with
-- their own n, T and Q. `given_count`: there are as many as rounds. `last_standing`: the words that stand in the last round are the base.
-- `removed_as_before`: the rounds remove as many words as rejection counts. `are_given` and `given_only`: what the rounds are given has the
-- property `AreGiven`, and no other list has it.
use mathlib.Core.Path.{◌≡◌, refl, ap, ◌∙◌}
use mathlib.Core.Bool.{Bool}
use mathlib.Core.List.{List, [], ◌∷◌, map}
use Prim.Native.Nat.{ℕ, zero, suc, ◌+◌, ◌-◌, ◌<◌, ◌≤◌}
use native.Mathlib.Omega.{arith}
use native.Mathlib.Numerals.{add-one}
use lib.ListN.{length, drop}
use lib.IntN.{ℤ, pos, ◌+ℤ◌, ◌-ℤ◌, ◌*ℤ◌, +ℤ_idr}
use Rattle.rules.specs.Limits.{Sums, sum_of, sum_of_squares, sums_of, limits_of, sum_by, square_of}
use Rattle.rules.specs.Rejection.{without, after_round, RejectionAnswer, rejection}
use Rattle.rules.specs.Carried.{only, less_words, Given, beyond_given, removed_words, handed_on, with_own_sums, in_rounds, given_to_rounds}
use Rattle.rules.specs.Carried.{standing_in_rounds, number_removed, AreGiven, last, more}
use Rattle.rules.proofs.Integers.{of_pos, of_any, plus_part, minus_part, plus, minus, equal}
use Rattle.rules.proofs.Without.{without_ind}
use Rattle.rules.proofs.Limits.{sum_is, squares_are}
use Rattle.rules.proofs.Rejection.{rejection_ind}

-- ---- the words that a test removes, and the words that it leaves, are all the words

pub split_count : (test : ℤ → Bool) (ws : List ℤ) → length ws ≡ length (without test ws) + length (only test ws)
unfolding only
split_count test =
    without_ind test (λ ws left. length ws ≡ length left + length (only test ws)) refl
    (λ w ws left t h. rw t (omega (arith, h)))
    (λ w ws left t h. rw t (omega (arith, h)))

pub split_sum : (test : ℤ → Bool) (f : ℤ → ℕ) (ws : List ℤ) → sum_by f ws ≡ sum_by f (without test ws) + sum_by f (only test ws)
unfolding only sum_by
split_sum test f =
    without_ind test (λ ws left. sum_by f ws ≡ sum_by f left + sum_by f (only test ws)) refl
    (λ w ws left t h. rw t (omega (arith, h)))
    (λ w ws left t h. rw t (omega (arith, h)))

-- ---- sums less some words

pub less_natural : (a b c : ℕ) → a ≡ c + b → pos a -ℤ pos b ≡ pos c
less_natural a b c e = equal (minus (of_pos {n = a}) (of_pos {n = b})) (of_pos {n = c}) (omega arith)

-- the sums of all words less the words that a test removes are the sums of the words that it leaves
pub sums_less : (test : ℤ → Bool) (ws : List ℤ) → less_words (sums_of ws) (only test ws) ≡ sums_of (without test ws)
unfolding less_words sums_of
sums_less test ws =
    let left = without test ws in
    let gone = only test ws in
    let n : length ws - length gone ≡ length left = omega (arith, split_count test ws) in
    let t : sum_of ws -ℤ sum_of gone ≡ sum_of left =
    equal (minus (sum_is ws) (sum_is gone)) (sum_is left)
    (omega (arith, split_sum test plus_part ws, split_sum test minus_part ws)) in
    let q : sum_of_squares ws -ℤ sum_of_squares gone ≡ sum_of_squares left =
    rw (squares_are ws, squares_are gone, squares_are left) (less_natural _ _ _ (split_sum test square_of ws)) in
    λ i. record { n = n i; t = t i; q = q i }

pub less_none : (s : Sums) → less_words s [] ≡ s
unfolding less_words sum_of_squares sum_of
less_none s =
    let n : s.n - 0 ≡ s.n = omega arith in
    λ i. record { n = n i; t = +ℤ_idr s.t i; q = +ℤ_idr s.q i }

-- the first word, and then the others
less_first : (a w b : ℤ) → a -ℤ (w +ℤ b) ≡ (a -ℤ (w +ℤ pos 0)) -ℤ b
less_first a w b =
    equal (minus (of_any a) (plus (of_any w) (of_any b))) (minus (minus (of_any a) (plus (of_any w) of_pos)) (of_any b)) (omega arith)

pub less_cons : (s : Sums) (w : ℤ) (ws : List ℤ) → less_words s (w ∷ ws) ≡ less_words (less_words s (w ∷ [])) ws
unfolding less_words sum_of_squares sum_of
less_cons s w ws =
    let n : s.n - suc (length ws) ≡ s.n - 1 - length ws = omega arith in
    let t = less_first s.t w (sum_of ws) in
    let q = less_first s.q (w *ℤ w) (sum_of_squares ws) in
    λ i. record { n = n i; t = t i; q = q i }

-- ---- what a round hands on

-- the sums that it was given, whatever they are, less the words that it removes
pub hands_on_less : (kind : ℕ) (g : Given) → (handed_on kind g).sums ≡ less_words g.sums (removed_words kind g)
unfolding handed_on
hands_on_less kind g = refl

-- given words with their own sums, it leaves the words that document 01's round leaves, and hands on their own sums
pub hands_on_own : (kind : ℕ) (ws : List ℤ) → handed_on kind (with_own_sums ws) ≡ with_own_sums (after_round kind ws)
unfolding handed_on removed_words with_own_sums after_round beyond_given limits_of
hands_on_own kind ws =
    let e = hands_on_less kind (with_own_sums ws) ∙ sums_less (beyond_given kind (with_own_sums ws)) ws in
    λ i. record { sums = e i; words = without (beyond_given kind (with_own_sums ws)) ws }

-- the words that it removes, and the words that it leaves, are all the words
removed_number : (kind : ℕ) (ws : List ℤ) → length ws ≡ length (after_round kind ws) + length (removed_words kind (with_own_sums ws))
unfolding removed_words with_own_sums after_round beyond_given limits_of
removed_number kind ws = split_count (beyond_given kind (with_own_sums ws)) ws

-- ---- what all rounds are given

-- f of what the rounds have, if f goes with the step from round to round
in_rounds-map : {A B : Type 0} (f : A → B) (next : A → A) (after : B → B) → ((x : A) → after (f x) ≡ f (next x)) → (rounds : ℕ) (x : A)
    → in_rounds rounds after (f x) ≡ map f (in_rounds rounds next x)
unfolding in_rounds
in_rounds-map f next after step zero x = refl
in_rounds-map f next after step (suc rounds) x =
    ap (λ (l : List _). f x ∷ l) (ap (in_rounds rounds after) (step x) ∙ in_rounds-map f next after step rounds (next x))

-- "for every round that what it is given equals T and Q of the words then standing"
pub given_own : (kind : ℕ) (ws : List ℤ) → given_to_rounds kind ws ≡ map with_own_sums (standing_in_rounds kind ws)
unfolding given_to_rounds standing_in_rounds
given_own kind ws =
    in_rounds-map with_own_sums (after_round kind) (handed_on kind) (hands_on_own kind) (rejection kind ws).rounds ws

own_sums : (standing : List (List ℤ)) → map (λ (g : Given). g.sums) (map with_own_sums standing) ≡ map sums_of standing
unfolding with_own_sums
own_sums [] = refl
own_sums (ws ∷ standing) = ap (λ (s : List Sums). sums_of ws ∷ s) (own_sums standing)

-- the same for the sums alone
pub sums_given_own : (kind : ℕ) (ws : List ℤ) → map (λ (g : Given). g.sums) (given_to_rounds kind ws) ≡ map sums_of (standing_in_rounds kind ws)
sums_given_own kind ws = ap (map (λ (g : Given). g.sums)) (given_own kind ws) ∙ own_sums (standing_in_rounds kind ws)

in_rounds_count : {A : Type 0} (rounds : ℕ) (next : A → A) (x : A) → length (in_rounds rounds next x) ≡ rounds
unfolding in_rounds
in_rounds_count zero next x = refl
in_rounds_count (suc rounds) next x = ap suc (in_rounds_count rounds next (next x))

-- there are as many as rounds
pub given_count : (kind : ℕ) (ws : List ℤ) → length (given_to_rounds kind ws) ≡ (rejection kind ws).rounds
unfolding given_to_rounds
given_count kind ws = in_rounds_count (rejection kind ws).rounds (handed_on kind) (with_own_sums ws)

in_rounds_next : {A : Type 0} (rounds : ℕ) (next : A → A) (x : A) → in_rounds (rounds + 1) next x ≡ x ∷ in_rounds rounds next (next x)
unfolding in_rounds
in_rounds_next rounds next x = rw (add-one)

-- the last of so many rounds
abbrev LastIs : ℕ → List ℤ → RejectionAnswer → Type 0
LastIs kind ws r = (1 ≤ r.rounds) × (drop (r.rounds - 1) (in_rounds r.rounds (after_round kind) ws) ≡ r.base ∷ [])

last_after : (rounds : ℕ) (first : List ℤ) (later base : List (List ℤ)) → 1 ≤ rounds → drop (rounds - 1) later ≡ base
    → drop (rounds + 1 - 1) (first ∷ later) ≡ base
last_after zero first later base h e = absurd (omega arith)
last_after (suc rounds) first later base h e =
    let before : suc rounds - 1 ≡ rounds = omega arith in
    let after : suc rounds + 1 - 1 ≡ suc rounds = omega arith in
    rw after (rw before at e)

-- the words of the last round are the base
pub last_standing : (kind : ℕ) (ws : List ℤ) → let r = rejection kind ws in
    drop (r.rounds - 1) (standing_in_rounds kind ws) ≡ r.base ∷ []
unfolding standing_in_rounds in_rounds
last_standing kind ws =
    (rejection_ind kind (LastIs kind) (λ ws e. (omega arith, refl))
    (λ ws r s h. (
      omega arith,
      rw (in_rounds_next r.rounds (after_round kind) ws)
          (last_after r.rounds ws (in_rounds r.rounds (after_round kind) (after_round kind ws)) (r.base ∷ []) h.0 h.1),
    )) ws).1

-- ---- the property, and the removals

pub are_given : (kind : ℕ) (ws : List ℤ) → AreGiven kind (with_own_sums ws) (given_to_rounds kind ws)
unfolding given_to_rounds in_rounds with_own_sums
are_given kind =
    rejection_ind kind (λ ws r. AreGiven kind (with_own_sums ws) (in_rounds r.rounds (handed_on kind) (with_own_sums ws)))
    (λ ws e. last (ap (λ (g : Given). length g.words) (hands_on_own kind ws) ∙ e))
    (λ ws r s h.
    let g = with_own_sums ws in
    let fewer : length (handed_on kind g).words < length g.words = rw (hands_on_own kind ws) s in
    let rest : AreGiven kind (handed_on kind g) (in_rounds r.rounds (handed_on kind) (handed_on kind g)) = rw (hands_on_own kind ws) h in
    rw (in_rounds_next r.rounds (handed_on kind) g) (more fewer rest))

-- the rounds remove as many words as rejection counts
pub removed_as_before : (kind : ℕ) (ws : List ℤ) → number_removed kind (given_to_rounds kind ws) ≡ (rejection kind ws).removed
unfolding given_to_rounds in_rounds number_removed
removed_as_before kind =
    rejection_ind kind (λ ws r. number_removed kind (in_rounds r.rounds (handed_on kind) (with_own_sums ws)) ≡ r.removed)
    (λ ws e. omega (arith, removed_number kind ws))
    (λ ws r s h.
    let g = with_own_sums ws in
    let rest : number_removed kind (in_rounds r.rounds (handed_on kind) (handed_on kind g)) ≡ r.removed = rw (hands_on_own kind ws) h in
    rw (in_rounds_next r.rounds (handed_on kind) g) (omega (arith, rest, removed_number kind ws)))

-- no other list has the property, whatever the first round is given
pub given_only : {kind : ℕ} {g : Given} {gs hs : List Given} → AreGiven kind g gs → AreGiven kind g hs → gs ≡ hs
given_only (last e) (last f) = refl
given_only (last e) (more f q) = absurd (omega arith)
given_only (more e p) (last f) = absurd (omega arith)
given_only {g = g} (more e p) (more f q) = ap (λ (x : List Given). g ∷ x) (given_only p q)

-- What a chart kind decides. A kind is a number: 1 duplicate, 2 check, 3 spike. Each definition states one thing that the kind decides. The
-- definitions are total. They treat a number that is no kind as kind 3; only `has_lower` and `judges_side` treat it as kind 1. Every call of
-- the paper refuses such a number.
use Rattle.std.specs.Prelude.{Bool, ◌&&◌, ◌||◌, ℕ, leb, eqb, ℤ, pos, neg_ℤ}
use Rattle.std.specs.Int.Signed.{le_z}
use Rattle.rules.specs.Choice.{choose}

-- "Chart kind 1, duplicate", "Kind 2, check", "Kind 3, spike"; refusal 1: "kind not 1..3"
unfoldable pub is_kind : ℕ → Bool
is_kind kind = leb 1 kind && leb kind 3

-- a value for each kind, in the order 1, 2, 3
abbrev pub by_kind {ℓ} : {A : Type ℓ} → ℕ → A → A → A → A
by_kind kind duplicate check spike = choose (eqb kind 1) duplicate (choose (eqb kind 2) check spike)

-- "kinds 1 and 2 ignore the third" of the three numbers that a call takes
unfoldable pub ignores_third : ℕ → Bool
ignores_third kind = eqb kind 1 || eqb kind 2

-- "Kind 1 words lie in 0..20000, the others in −20000..20000."
abbrev pub word_most : ℕ
word_most = 20000

unfoldable pub word_least : ℕ → ℤ
word_least kind = by_kind kind (pos 0) (neg_ℤ (pos word_most)) (neg_ℤ (pos word_most))

unfoldable pub in_range : ℕ → ℤ → Bool
in_range kind w = le_z (word_least kind) w && le_z w (pos word_most)

-- "Kind 1 has only the upper ones": kinds 2 and 3 have lower limits too
unfoldable pub has_lower : ℕ → Bool
has_lower kind = eqb kind 2 || eqb kind 3

-- verdict 4, for words on one side of the mean: "kinds 2 and 3 only"
unfoldable pub judges_side : ℕ → Bool
judges_side kind = eqb kind 2 || eqb kind 3

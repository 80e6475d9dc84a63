-- Laws of the refusals' numbers.
use mathlib.Core.Path.{◌≡◌, refl, sym, ap, ◌∙◌}
use Prim.Native.Nat.{ℕ}
use native.Mathlib.Omega.{arith}
use lib.Dec.{eqb}
use Rattle.rules.specs.Choice.{choose}
use Rattle.refusals.specs.Refusal.{refusal_number}
use Rattle.refusals.specs.declared.Refusal.{Refusal}
use Rattle.refusals.specs.declared.Refusal.TheVariants as case

-- no refusal has the number 0, which says that a call gave its answer
pub refusal_not_0 : (r : Refusal) → refusal_number r ≡ 0 → ⊥
unfolding refusal_number
refusal_not_0 case.NoKind e = absurd (omega arith)
refusal_not_0 case.WordCount e = absurd (omega arith)
refusal_not_0 case.BaseWord e = absurd (omega arith)
refusal_not_0 case.AnotherKind e = absurd (omega arith)
refusal_not_0 case.NoReading e = absurd (omega arith)
refusal_not_0 case.Divisor e = absurd (omega arith)
refusal_not_0 case.NoWord e = absurd (omega arith)
refusal_not_0 case.NotFree e = absurd (omega arith)
refusal_not_0 case.SeriesFull e = absurd (omega arith)
refusal_not_0 case.NoReanalysisDue e = absurd (omega arith)
refusal_not_0 case.NoCorrectionDue e = absurd (omega arith)
refusal_not_0 case.TooFewWords e = absurd (omega arith)
refusal_not_0 case.NoStoredForm e = absurd (omega arith)
refusal_not_0 case.NotSound e = absurd (omega arith)
refusal_not_0 case.NoRoom e = absurd (omega arith)
refusal_not_0 case.TooFewStand e = absurd (omega arith)

-- ---- two refusals have two numbers

-- a refusal by its number
abbrev named : ℕ → Refusal
named n =
    choose (eqb n 1) case.NoKind
    (choose (eqb n 2) case.WordCount
    (choose (eqb n 3) case.BaseWord
    (choose (eqb n 4) case.AnotherKind
    (choose (eqb n 5) case.NoReading
    (choose (eqb n 6) case.Divisor
    (choose (eqb n 7) case.NoWord
    (choose (eqb n 8) case.NotFree
    (choose (eqb n 9) case.SeriesFull
    (choose (eqb n 10) case.NoReanalysisDue
    (choose (eqb n 11) case.NoCorrectionDue
    (choose (eqb n 12) case.TooFewWords
    (choose (eqb n 13) case.NoStoredForm
    (choose (eqb n 14) case.NotSound
    (choose (eqb n 15) case.NoRoom
    case.TooFewStand))))))))))))))

named_lem : (r : Refusal) → named (refusal_number r) ≡ r
unfolding refusal_number
named_lem case.NoKind = refl
named_lem case.WordCount = refl
named_lem case.BaseWord = refl
named_lem case.AnotherKind = refl
named_lem case.NoReading = refl
named_lem case.Divisor = refl
named_lem case.NoWord = refl
named_lem case.NotFree = refl
named_lem case.SeriesFull = refl
named_lem case.NoReanalysisDue = refl
named_lem case.NoCorrectionDue = refl
named_lem case.TooFewWords = refl
named_lem case.NoStoredForm = refl
named_lem case.NotSound = refl
named_lem case.NoRoom = refl
named_lem case.TooFewStand = refl

pub same_refusal : (r s : Refusal) → refusal_number r ≡ refusal_number s → r ≡ s
same_refusal r s e = sym (named_lem r) ∙ ap named e ∙ named_lem s

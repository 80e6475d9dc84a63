-- Laws of building: what its conditions decide, and its contract: if it refuses before rejection, if too few words stand, and if it builds.
use mathlib.Core.Path.{◌≡◌, sym, ap, ◌∙◌}
use mathlib.Core.List.{List}
use Prim.Native.Nat.{ℕ, ◌<◌, ◌≤◌}
use native.Mathlib.Omega.{arith}
use lib.IntN.{ℤ}
use Rattle.std.specs.Prelude.{Ok}
use borrow.Author.Tests.{le-leb, lt-leb}
use Rattle.rules.specs.Outcome.{given, refused}
use Rattle.rules.specs.Choice.{require}
use Rattle.rules.specs.Sizes.{base_wanted}
use Rattle.rules.specs.State.{fresh}
use Rattle.rules.specs.Rejection.{rejection}
use Rattle.rules.specs.Standing.{number_standing, fifteen_stand}
use Rattle.rules.specs.Building.{built_from, build_refusal, building}
use Rattle.rules.proofs.Outcome.{unless_number_lem}
use Rattle.chart.specs.Chart.{state_of, fresh_chart, not_built, build_says, chart_after, Builds}
use Rattle.chart.specs.Rejection.{IsRejection}
use Rattle.chart.specs.declared.Chart.{Chart}
use Rattle.refusals.specs.Refusal.{refusal_number}
use Rattle.refusals.specs.declared.Refusal.{Refusal}
use Rattle.refusals.specs.declared.Refusal.TheVariants.{TooFewStand}
use Rattle.chart.specs.declared.rejection.RejectionAnswer.{RejectionAnswer}
use Rattle.refusals.proofs.Numbers.{refusal_not_0}
use Rattle.chart.proofs.Rounds.{left_standing}
use Rattle.chart.proofs.State.{state_of_chart, fresh_is}

-- ---- refusals

-- a number that is not 0 is the answer. If it is 0, rejection decides
pub declined : (kind : ℕ) (ws : List ℤ) (n : ℕ) → n ≡ build_refusal kind ws → (n ≡ 0 → ⊥) → building kind ws ≡ refused n
unfolding building
declined kind ws n e ne = rw (← e) (unless_number_lem n _ ne)

accepted : (kind : ℕ) (ws : List ℤ) → build_refusal kind ws ≡ 0
    → building kind ws ≡ require (fifteen_stand kind ws) (refused 16) (given (built_from kind (rejection kind ws)))
unfolding building
accepted kind ws none = rw none

-- ---- the contract of building: a refusal before rejection, and then what rejection decides

not_built_lem : (kind : ℕ) (ws : List ℤ) (r : Refusal) → building kind ws ≡ refused (refusal_number r) → Builds kind ws (not_built r)
unfolding chart_after build_says
not_built_lem kind ws r d = record { chart = ap chart_after (sym d); says = sym d }

pub build_declined : {kind : ℕ} {ws : List ℤ} {r : Refusal} → refusal_number r ≡ build_refusal kind ws → Builds kind ws (not_built r)
build_declined {kind} {ws} {r} e = not_built_lem kind ws r (declined kind ws (refusal_number r) e (refusal_not_0 r))

-- no refusal comes before rejection, and a is its answer
module _ {kind : ℕ} {ws : List ℤ} {a : RejectionAnswer} (none : build_refusal kind ws ≡ 0) (is : IsRejection (rejection kind ws) a) where
  pub build_too_few : a.left.n < base_wanted → Builds kind ws (not_built TooFewStand)
  unfolding fifteen_stand refusal_number
  build_too_few few =
      let few' = lt-leb base_wanted (number_standing kind ws) (omega (arith, left_standing kind ws a is)) in
      not_built_lem kind ws TooFewStand (rw few' at (accepted kind ws none))

  pub build_accepted : base_wanted ≤ a.left.n → {c : Chart} → c ≡ fresh_chart kind a.left.words a.left.n
      → Builds kind ws (record { chart = c; answer = Ok (record { rounds = a.rounds; removed = a.removed }) })
  unfolding fifteen_stand chart_after build_says
  build_accepted enough {c} f =
      let enough' = le-leb base_wanted (number_standing kind ws) (omega (arith, left_standing kind ws a is)) in
      let d : building kind ws ≡ given (built_from kind (rejection kind ws)) = rw enough' at (accepted kind ws none) in
      let start = fresh kind (rejection kind ws).base in
      let chart = f ∙ fresh_is kind (rejection kind ws).base a.left.words a.left.n is.left.words is.left.count in
      let state : state_of c ≡ start = ap state_of chart ∙ state_of_chart start in
      record {
        chart = chart ∙ ap chart_after (sym d);
        says = (λ i. given (record { state = state i; rounds = is.rounds i; removed = is.removed i })) ∙ sym d;
      }

-- `judging::soundness::none_beyond_control` meets its contract: a word between two words within the control limits is within them too, so
-- the least and the greatest word decide.
use mathlib.Core.Path.{sym, ap}
use mathlib.Core.Bool.{Bool, not}
use native.Mathlib.Omega.{arith}
use Rattle.std.proofs.Common.{rules}
use lib.IntN.{ℤ}
use Rattle.rules.specs.AllOf.{none_of}
use Rattle.rules.specs.Limits.{control_multiple, beyond_control}
use Rattle.rules.proofs.AllOf.{all_none}
use Rattle.rules.proofs.PassesBetween.{within-between}
use Rattle.limits.specs.Sums.{limits_say}
use Rattle.extremes.proofs.Picking.{answers_decide}
use Rattle.judging.proofs.soundness.none_beyond_control.Goals as goal

pub returns-then-is_empty : goal.returns-then-is_empty
unfolding none_of
returns-then-is_empty c =
    let test : ℤ → Bool = λ w. not (beyond_control (limits_say c.args.l) w) in
    sym (all_none test c.args.words.now 0 (grind arith))

pub returns : goal.returns
unfolding none_of beyond_control
returns c =
    let test : ℤ → Bool = λ w. not (beyond_control (limits_say c.args.l) w) in
    answers_decide test (within-between control_multiple (limits_say c.args.l)) c.args.words.now (grind arith)
    c.extremes_of-e.ensures (search rules) (search rules)
    (ap not c.beyond_control.ensures) (ap not c.beyond_control-2.ensures)

-- `words::nearest` meets its contract.
use mathlib.Core.Path.{◌≡◌, ap, ◌∙◌}
use native.Mathlib.Omega.{arith}
use lib.IntN.{pos, neg_ℤ, ◌-ℤ◌, +ℤ_idl}
use mir.Syntax.{w64}
use mir.Val.{SFits, to_z}
use mir.Facts.{to_z-of_z, to_z_pos}
use Rattle.rules.specs.Word.{nearest}
use Rattle.rules.proofs.Integers.{magnitude_negated}
use Rattle.rules.proofs.Held.{small_fits}
use Rattle.rules.proofs.Word.{nearest_negative}
use Rattle.words.proofs.nearest.Goals as goal

pub overflow_sub-result : goal.overflow_sub-result
overflow_sub-result c =
    let held : to_z w64 c.nearest_natural-w.result ≡ pos c.nearest_natural-w.result = to_z_pos w64 (omega arith) in
    let negation : pos 0 -ℤ to_z w64 c.nearest_natural-w.result ≡ neg_ℤ (pos c.nearest_natural-w.result) =
    +ℤ_idl (neg_ℤ (to_z w64 c.nearest_natural-w.result)) ∙ ap neg_ℤ held in
    let fits : SFits w64 (neg_ℤ (pos c.nearest_natural-w.result)) =
    small_fits (omega (arith, magnitude_negated (pos c.nearest_natural-w.result))) in
    rw negation fits

pub returns-then-q : goal.returns-then-q
returns-then-q c =
    let held : to_z w64 c.nearest_natural-w.result ≡ pos c.nearest_natural-w.result = to_z_pos w64 (omega arith) in
    let negation : pos 0 -ℤ to_z w64 c.nearest_natural-w.result ≡ neg_ℤ (pos c.nearest_natural-w.result) =
    +ℤ_idl (neg_ℤ (to_z w64 c.nearest_natural-w.result)) ∙ ap neg_ℤ held in
    let fits : SFits w64 (neg_ℤ (pos c.nearest_natural-w.result)) =
    small_fits (omega (arith, magnitude_negated (pos c.nearest_natural-w.result))) in
    let q = c.args.q in
    rw (negation, to_z-of_z fits, c.if-q.true, c.nearest_natural-w.ensures.0)
    (nearest_negative q.numerator q.divisor c.requires.0)

pub returns-else-q : goal.returns-else-q
unfolding nearest
returns-else-q c =
    let held : to_z w64 c.nearest_natural-w.result ≡ pos c.nearest_natural-w.result = to_z_pos w64 (omega arith) in
    rw (held, c.if-q.false, c.nearest_natural-w.ensures.0)

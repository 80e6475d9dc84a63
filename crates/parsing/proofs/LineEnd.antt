-- Laws of a carriage return at the end of a line: the line is empty (`no_bytes`), the carriage return is left out (`return_left_out`), or
-- there is none (`no_return`).
use mathlib.Core.Path.{◌≡◌, refl, sym, ap, ◌∙◌}
use mathlib.Core.Bool.{true, false}
use mathlib.Core.List.{List, [], ◌∷◌, ◌++◌}
use Prim.Native.Nat.{ℕ, suc, ◌-◌, ◌<◌, ◌≤◌}
use native.Mathlib.Omega.{arith}
use borrow.Author.Tests.{eq-eqb, ne_eqb}
use lib.Dec.{eqb}
use lib.ListN.{length, take, drop, get_or, drop_of_length-le}
use lib.Seq.{split_at, take_all, length-take-le}
use Rattle.parsing.specs.Fields.{without_return, IsWithoutReturn}

left_out : (x : List ℕ) (b : ℕ) → eqb b 13 ≡ true → without_return (x ++ (b ∷ [])) ≡ x
unfolding without_return
left_out [] b e = rw e
left_out (a ∷ []) b e = ap (λ (l : List ℕ). a ∷ l) (left_out [] b e)
left_out (a ∷ next ∷ x) b e = ap (λ (l : List ℕ). a ∷ l) (left_out (next ∷ x) b e)

kept : (x : List ℕ) (b : ℕ) → eqb b 13 ≡ false → without_return (x ++ (b ∷ [])) ≡ x ++ (b ∷ [])
unfolding without_return
kept [] b e = rw e
kept (a ∷ []) b e = ap (λ (l : List ℕ). a ∷ l) (kept [] b e)
kept (a ∷ next ∷ x) b e = ap (λ (l : List ℕ). a ∷ l) (kept (next ∷ x) b e)

pub no_bytes : (line : List ℕ) → length line ≡ 0 → IsWithoutReturn line (length line)
unfolding without_return
no_bytes [] e = record { within = omega arith; same = refl }
no_bytes (b ∷ line) e = absurd (omega arith)

module _ (line : List ℕ) (some : 0 < length line) where
  abbrev last : ℕ
  last = length line - 1

  parted : line ≡ take last line ++ (get_or line last 0 ∷ [])
  parted =
      let past : length line ≤ suc last = omega arith in
      let none : drop (suc last) line ≡ [] = drop_of_length-le line past in
      rw none at (split_at line last 0 (omega arith))

  pub return_left_out : get_or line last 0 ≡ 13 → IsWithoutReturn line (length (take last line))
  return_left_out e =
      rw (length-take-le last line (omega arith)) (record {
        within = omega arith;
        same = sym (ap without_return parted ∙ left_out (take last line) (get_or line last 0) (eq-eqb _ _ e));
      })

  pub no_return : (get_or line last 0 ≡ 13 → ⊥) → IsWithoutReturn line (length line)
  no_return h =
      record {
        within = omega arith;
        same =
            take_all (length line) line (omega arith) ∙ parted
            ∙ sym (kept (take last line) (get_or line last 0) (ne_eqb _ _ h)) ∙ ap without_return (sym parted);
      }

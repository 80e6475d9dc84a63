-- Document 01, "The machine": the state that a chart stands for, and the changes that calls make to it.
use Rattle.std.specs.Prelude.{List, [], ◌∷◌, ◌++◌, ℕ, ℤ}
use Rattle.rules.specs.LastWords.{but_last}
use Rattle.rules.specs.Limits.{Limits, limits_of}

-- "State: chart kind; base; series (words posted, 0..366); status 0 free, 1 reanalysis due, 2 correction due; open verdict (0 when
-- free)."
pub record State : Type 0 where
  pub kind : ℕ
  pub base : List ℤ
  pub series : List ℤ
  pub status : ℕ
  pub open_verdict : ℕ

-- the state with these parts
abbrev pub state : ℕ → List ℤ → List ℤ → ℕ → ℕ → State
state kind base series status open_verdict =
    record { kind = kind; base = base; series = series; status = status; open_verdict = open_verdict }

-- "A fresh chart has an empty series and status 0", so its open verdict is 0
unfoldable pub fresh : ℕ → List ℤ → State
fresh kind base = state kind base [] 0 0

-- the limits from the kind and the base. Judging uses these and the series
unfoldable pub limits_for : State → Limits
limits_for s = limits_of s.kind s.base

-- the same state with a word added to the series
unfoldable pub add_word : State → ℤ → State
add_word s w = state s.kind s.base (s.series ++ (w ∷ [])) s.status s.open_verdict

-- the same state with a word in place of the last word of the series
unfoldable pub replace_last : State → ℤ → State
replace_last s w = state s.kind s.base (but_last s.series ++ (w ∷ [])) s.status s.open_verdict

-- the same state with this status and this open verdict
unfoldable pub set_status : State → ℕ → ℕ → State
set_status s status open_verdict = state s.kind s.base s.series status open_verdict

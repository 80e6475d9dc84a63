-- Laws of soundness: its facts by name, in both directions (`sound_facts`, `sound_from`); status and open verdict of a sound state
-- (`status_facts`). A state that is open under 3, though 4 applies, is not sound (`sided_trend_unsound`). A fresh chart of the words that
-- rejection leaves is sound (`fresh-sound`), and so is the chart that building gives (`built_sound`), in which fifteen words or more stand
-- (`built_fifteen`).
use mathlib.Core.Path.{◌≡◌, refl, sym, ap, ◌∙◌}
use mathlib.Core.Bool.{true, false}
use mathlib.Core.List.{List, []}
use Prim.Native.Nat.{ℕ, ◌≤◌}
use native.Mathlib.Omega.{arith}
use lib.ListN.{length}
use lib.Dec.{leb, eqb}
use lib.IntN.{ℤ}
use borrow.Author.Tests.{leb-true, le-leb, eqb-true, eqb-false, eq-eqb, ne_eqb}
use Rattle.rules.specs.Choice.{require}
use Rattle.rules.specs.Outcome.{given, refused}
use Rattle.rules.specs.Sizes.{base_wanted, base_least, base_most, series_most}
use Rattle.rules.specs.Kind.{is_kind}
use Rattle.rules.specs.Limits.{Limits, limits_of, beyond_control}
use Rattle.rules.specs.AllOf.{none_of}
use Rattle.rules.specs.Rejection.{rejection}
use Rattle.rules.specs.Standing.{number_standing, fifteen_stand}
use Rattle.rules.specs.LastWords.{but_last}
use Rattle.rules.specs.State.{State, fresh, limits_for}
use Rattle.rules.specs.Building.{BuiltState, built_from, is_build_count, all_in_range, build_refusal, building}
use Rattle.rules.specs.Verdict.{side_test, verdict}
use Rattle.rules.specs.Soundness.{are_counts, words_sound, held_within, limits_hold, open_fits, status_fits, sound}
use Rattle.rules.proofs.Booleans.{both, by_test}
use Rattle.rules.proofs.Outcome.{same_given, require_given, unless_given}
use Rattle.rules.proofs.Choice.{require_zero}
use Rattle.rules.proofs.InOrder.{in_range_empty, in_range_some, none_empty}
use Rattle.rules.proofs.Verdict.{trend_not_sided}
use Rattle.rules.proofs.Rejection.{rejection_counts, rejection_keeps_order, rejection_leaves_none_beyond, rejection_leaves_ten}

-- ---- a sound state, as facts

pub record Sound (s : State) : Type 0 where
  pub is_kind_lem : is_kind s.kind ≡ true
  pub base_least_lem : base_least ≤ length s.base
  pub base_most_lem : length s.base ≤ base_most
  pub series_most_lem : length s.series ≤ series_most
  pub base_in_range : all_in_range s.kind s.base ≡ true
  pub series_in_range : all_in_range s.kind s.series ≡ true
  pub base_within : none_of (beyond_control (limits_for s)) s.base ≡ true
  pub series_within : none_of (beyond_control (limits_for s)) (held_within s.status s.series) ≡ true
  pub status_fits_lem : status_fits (limits_for s) s.series s.status s.open_verdict ≡ true

-- the test gives the facts
pub sound_facts : (s : State) → sound s ≡ true → Sound s
unfolding sound words_sound are_counts limits_hold
sound_facts s h =
    let whole = both _ _ h in
    let words = both _ _ whole.0 in
    let counts-ranges = both _ _ words.1 in
    let counts = both _ _ counts-ranges.0 in
    let base-counts = both _ _ counts.0 in
    let ranges = both _ _ counts-ranges.1 in
    let limits-status = both _ _ whole.1 in
    let within = both _ _ limits-status.0 in
    record {
      is_kind_lem = words.0;
      base_least_lem = leb-true base_least (length s.base) base-counts.0;
      base_most_lem = leb-true (length s.base) base_most base-counts.1;
      series_most_lem = leb-true (length s.series) series_most counts.1;
      base_in_range = ranges.0;
      series_in_range = ranges.1;
      base_within = within.0;
      series_within = within.1;
      status_fits_lem = limits-status.1;
    }

-- the facts give the test
pub sound_from : (s : State) → Sound s → sound s ≡ true
unfolding sound words_sound are_counts limits_hold
sound_from s f =
    rw (
      f.is_kind_lem,
      le-leb base_least (length s.base) f.base_least_lem,
      le-leb (length s.base) base_most f.base_most_lem,
      le-leb (length s.series) series_most f.series_most_lem,
      f.base_in_range,
      f.series_in_range,
      f.base_within,
      f.series_within,
      f.status_fits_lem,
    )

-- ---- status and open verdict

-- "status 1 or 2 with a series that is not empty and a verdict 1..4 that posting the last word after those before it would give"
pub record OpenFacts (limits : Limits) (series : List ℤ) (status open_verdict : ℕ) : Type 0 where
  pub status_least : 1 ≤ status
  pub status_most : status ≤ 2
  pub some_series : 1 ≤ length series
  pub verdict_least : 1 ≤ open_verdict
  pub verdict_most : open_verdict ≤ 4
  pub verdict_is : open_verdict ≡ verdict limits series

module _ (limits : Limits) (series : List ℤ) (status open_verdict : ℕ) where
  -- the test of an open verdict gives the facts
  pub open_facts : open_fits limits series status open_verdict ≡ true → OpenFacts limits series status open_verdict
  unfolding open_fits
  open_facts h =
      let status-rest = both _ _ h in
      let statuses = both _ _ status-rest.0 in
      let series-rest = both _ _ status-rest.1 in
      let verdict-rest = both _ _ series-rest.1 in
      let verdicts = both _ _ verdict-rest.0 in
      record {
        status_least = leb-true 1 status statuses.0;
        status_most = leb-true status 2 statuses.1;
        some_series = leb-true 1 (length series) series-rest.0;
        verdict_least = leb-true 1 open_verdict verdicts.0;
        verdict_most = leb-true open_verdict 4 verdicts.1;
        verdict_is = eqb-true open_verdict (verdict limits series) verdict-rest.1;
      }

  -- the facts give the test of an open verdict
  pub open_from : OpenFacts limits series status open_verdict → open_fits limits series status open_verdict ≡ true
  unfolding open_fits
  open_from f =
      rw (
        le-leb 1 status f.status_least,
        le-leb status 2 f.status_most,
        le-leb 1 (length series) f.some_series,
        le-leb 1 open_verdict f.verdict_least,
        le-leb open_verdict 4 f.verdict_most,
        eq-eqb open_verdict (verdict limits series) f.verdict_is,
      )

  -- so status and open verdict fit
  pub open_fits_lem : OpenFacts limits series status open_verdict → status_fits limits series status open_verdict ≡ true
  unfolding status_fits
  open_fits_lem f = rw (ne_eqb status 0 (λ e. omega arith)) (open_from f)

-- "status 0 goes with verdict 0"
pub free_fits : (limits : Limits) (series : List ℤ) → status_fits limits series 0 0 ≡ true
unfolding status_fits
free_fits limits series = refl

-- the open verdict of a sound state: 0 while the status is 0, and otherwise as the facts say
pub free_verdict : (s : State) → Sound s → s.status ≡ 0 → s.open_verdict ≡ 0
unfolding status_fits
free_verdict s f e = eqb-true s.open_verdict 0 (rw (eq-eqb s.status 0 e) at f.status_fits_lem)

pub not_free_facts : (s : State) → Sound s → (s.status ≡ 0 → ⊥) → OpenFacts (limits_for s) s.series s.status s.open_verdict
unfolding status_fits
not_free_facts s f ne =
    open_facts (limits_for s) s.series s.status s.open_verdict (rw (ne_eqb s.status 0 ne) at f.status_fits_lem)

-- what status and open verdict of a sound state can be
pub data FreeOrOpen (s : State) : Type 0 where
  free : s.status ≡ 0 → s.open_verdict ≡ 0 → FreeOrOpen s
  opened : OpenFacts (limits_for s) s.series s.status s.open_verdict → FreeOrOpen s

-- a sound state is free or has an open verdict
pub status_facts : (s : State) → sound s ≡ true → FreeOrOpen s
status_facts s h =
    let f = sound_facts s h in
    by_test (eqb s.status 0)
    (λ t. let e = eqb-true s.status 0 t in free e (free_verdict s f e))
    (λ t. opened (not_free_facts s f (eqb-false s.status 0 t)))

-- document 02, Q-1: a state that is open under 3 and whose run stays on one side is not sound, whatever its status is
sided_trend_not_open : (s : State) → s.open_verdict ≡ 3 → FreeOrOpen s → side_test (limits_for s) s.series ≡ false
sided_trend_not_open s three (free e none) = absurd (omega (arith, three, none))
sided_trend_not_open s three (opened f) = trend_not_sided (limits_for s) s.series (sym f.verdict_is ∙ three)

pub sided_trend_unsound : (s : State) → s.open_verdict ≡ 3 → side_test (limits_for s) s.series ≡ true → sound s ≡ false
sided_trend_unsound s three sided =
    by_test (sound s) (λ h. h ∙ (sym sided ∙ sided_trend_not_open s three (status_facts s h))) (λ h. h)

-- ---- the words of the series that must not be beyond a control limit: all while the status is 0, else all but the last

pub held_free : (status : ℕ) (series : List ℤ) → status ≡ 0 → held_within status series ≡ series
unfolding held_within
held_free status series h = rw (eq-eqb status 0 h)

pub held_open : (status : ℕ) (series : List ℤ) → 1 ≤ status → held_within status series ≡ but_last series
unfolding held_within
held_open status series h = rw (ne_eqb status 0 (λ e. omega arith))

-- so in a sound state none of these words is beyond a control limit
pub within_free : (s : State) → Sound s → s.status ≡ 0 → none_of (beyond_control (limits_for s)) s.series ≡ true
within_free s f e = rw (held_free s.status s.series e) at f.series_within

pub within_open : (s : State) → Sound s → 1 ≤ s.status → none_of (beyond_control (limits_for s)) (but_last s.series) ≡ true
within_open s f h = rw (held_open s.status s.series h) at f.series_within

-- ---- a fresh chart is sound

-- its base is what rejection leaves of 10..32 words in range
module _ (kind : ℕ) (words : List ℤ) (is_kind_lem : is_kind kind ≡ true) (in_range_lem : all_in_range kind words ≡ true)
    (least : base_least ≤ length words) (most : length words ≤ base_most) where
  fresh_facts : Sound (fresh kind (rejection kind words).base)
  unfolding fresh limits_for
  fresh_facts =
      let base = (rejection kind words).base in
      let limits = limits_of kind base in
      record {
        is_kind_lem = is_kind_lem;
        base_least_lem = rejection_leaves_ten kind words least;
        base_most_lem = omega (arith, rejection_counts kind words);
        series_most_lem = omega arith;
        base_in_range = in_range_some kind (rejection_keeps_order kind words) in_range_lem;
        series_in_range = in_range_empty kind;
        base_within = rejection_leaves_none_beyond kind words;
        series_within = rw (held_free 0 [] refl) (none_empty (beyond_control limits));
        status_fits_lem = free_fits limits [];
      }

  pub fresh-sound : sound (fresh kind (rejection kind words).base) ≡ true
  fresh-sound = sound_from (fresh kind (rejection kind words).base) fresh_facts

-- ---- building

-- no refusal of building applies
pub record CanBuild (kind : ℕ) (words : List ℤ) : Type 0 where
  pub is_kind_lem : is_kind kind ≡ true
  pub least : base_wanted ≤ length words
  pub most : length words ≤ base_most
  pub in_range_lem : all_in_range kind words ≡ true

-- this follows if the number of the refusal is 0
pub can_build : (kind : ℕ) (words : List ℤ) → build_refusal kind words ≡ 0 → CanBuild kind words
unfolding build_refusal is_build_count
can_build kind words h =
    let kinds = require_zero (is_kind kind) 0 _ h in
    let counts = require_zero (is_build_count words) 1 _ kinds.1 in
    let ranges = require_zero (all_in_range kind words) 2 0 counts.1 in
    let bounds = both (leb base_wanted (length words)) (leb (length words) base_most) counts.0 in
    record {
      is_kind_lem = kinds.0;
      least = leb-true base_wanted (length words) bounds.0;
      most = leb-true (length words) base_most bounds.1;
      in_range_lem = ranges.0;
    }

-- if building gives a chart, no refusal applies, and the chart is the fresh one of the words that stand
pub record BuildFacts (kind : ℕ) (words : List ℤ) (s : State) : Type 0 where
  pub can : CanBuild kind words
  pub stand : base_wanted ≤ number_standing kind words
  pub is : fresh kind (rejection kind words).base ≡ s

pub build_facts : (kind : ℕ) (words : List ℤ) (b : BuiltState) → building kind words ≡ given b → BuildFacts kind words b.state
unfolding building fifteen_stand
build_facts kind words b e =
    let gives = given (built_from kind (rejection kind words)) in
    let numbered = unless_given (build_refusal kind words) (require (fifteen_stand kind words) (refused 16) gives) b e in
    let stood = require_given (fifteen_stand kind words) 16 gives b numbered.gives in
    record {
      can = can_build kind words numbered.none;
      stand = leb-true base_wanted (number_standing kind words) stood.holds;
      is = ap (λ (x : BuiltState). x.state) (same_given stood.gives);
    }

module _ (kind : ℕ) (words : List ℤ) (b : BuiltState) (e : building kind words ≡ given b) where
  -- a chart that building gives is sound
  pub built_sound : sound b.state ≡ true
  built_sound =
      let from = build_facts kind words b e in
      let can = from.can in
      rw from.is at (fresh-sound kind words can.is_kind_lem can.in_range_lem (omega (arith, can.least)) can.most)

  -- and at least fifteen words stand in it: document 02, Q-4
  pub built_fifteen : base_wanted ≤ length b.state.base
  unfolding number_standing fresh
  built_fifteen =
      let from = build_facts kind words b e in
      omega (arith, from.stand, ap (λ (x : State). length x.base) from.is)

-- The input as the program takes it. The bytes up to a line feed are a part of the line (`turn`). What the program holds follows the
-- definitions: after a part of a line (`held_part`, `held_end`), at the end of the input (`held_none`, `held_last`), and from one read to
-- the next (`more_came`, `last_came`). If every answer was written, nothing is dropped (`held_told`, `unless_told`).
use mathlib.Core.Path.{◌≡◌, refl, sym, ap, ◌∙◌}
use mathlib.Core.Bool.{Bool, true, false, not, false≢true}
use mathlib.Core.List.{List, [], ◌∷◌, ◌++◌, append_assoc, append-nil}
use Prim.Native.Nat.{ℕ, suc, ◌+◌, ◌-◌, ◌<◌, ◌≤◌, zero-le}
use native.Mathlib.Omega.{arith}
use Rattle.std.proofs.Common.{one-add}
use Rattle.std.proofs.lemmas.List.Recursion.{is_position_or_len}
use Rattle.std.proofs.lemmas.List.Sums.{prefix_len-le-length}
use Rattle.std.specs.Prelude.{Option, position, unwrap_or}
use Rattle.std.specs.List.{position_or_len}
use borrow.Author.Tests.{lt-ltb, le-ltb, eqb-true, ltb-false, not-true}
use lib.Dec.{eqb, ltb}
use lib.ListN.{length, take, drop, get_or, length-append, length-take, length-drop}
use lib.Seq.{take_all, take-nil, take-suc, take-add, take_at, take-append-le}
use Rattle.rules.specs.Choice.{choose}
use Rattle.rules.proofs.Booleans.{by_test}
use Rattle.rules.proofs.Integers.{by_order}
use Rattle.chart.specs.declared.Chart.{Chart}
use Rattle.chart.specs.Chart.{zero_chart}
use Rattle.parsing.specs.Bytes.{same_bytes}
use Rattle.parsing.specs.Fields.{fields_of, without_return}
use Rattle.parsing.specs.Text.{begins, without_mark}
use Rattle.commands.specs.Command.{passed_over, line_in, line_of}
use Rattle.outcomes.specs.Status.{holds_batch, status_of}
use Rattle.printing.specs.Output.{Puts}
use Rattle.printing.proofs.Putting.{puts_length, puts_cut}
use Rattle.control_chart.specs.declared.input.Pending.{Pending}
use Rattle.std.specs.declared.ops.ControlFlow.TheVariants.{Break}
use Rattle.control_chart.specs.Input.{SoFar, so_far, at_start, ended_line, after_line, after_ended, with_part, with_byte, with_bytes, to_line_feed}
use Rattle.control_chart.specs.Input.{unless_failed, at_end, line_room, HoldsInput, Follows, HasRoom, CanTake, IsAfter, EndsLine}
use Rattle.control_chart.specs.Input.{Taken, Came, AfterRead, pending, more, IsInputRead, IsEnd}
use Rattle.control_chart.proofs.Cutting.{cut_line}

-- ---- bytes, one read after the other

pub reads_joined : (s : SoFar) (x y : List ℕ) → with_bytes s (x ++ y) ≡ with_bytes (with_bytes s x) y
unfolding with_bytes
reads_joined s [] y = refl
reads_joined s (b ∷ x) y = reads_joined (with_byte s b) x y

-- the first bytes, and n more
more_bytes : (s : SoFar) (bytes : List ℕ) (at n next : ℕ) → next ≡ at + n
    → with_bytes s (take next bytes) ≡ with_bytes (with_bytes s (take at bytes)) (take n (drop at bytes))
more_bytes s bytes at n next e =
    ap (λ (m : ℕ). with_bytes s (take m bytes)) e
    ∙ ap (with_bytes s) (take-add at n bytes)
    ∙ reads_joined s (take at bytes) (take n (drop at bytes))

-- ---- up to a line feed

module _ (x : ℕ) (xs : List ℕ) where
  feed_here : eqb x 10 ≡ true → to_line_feed (x ∷ xs) ≡ 0
  unfolding to_line_feed
  feed_here t = rw t

  feed_later : eqb x 10 ≡ false → to_line_feed (x ∷ xs) ≡ suc (to_line_feed xs)
  unfolding to_line_feed
  feed_later t = rw t

-- the place of the first byte that is a line feed, or the length of all bytes
first_feed : (xs : List ℕ) → to_line_feed xs ≡ position_or_len (λ b. eqb b 10) xs
unfolding to_line_feed
first_feed = is_position_or_len to_line_feed (λ b. eqb b 10) refl (λ x xs. by_test (eqb x 10) (λ t. rw t) (λ t. rw (t, one-add)))

pub feed_found_at : (xs : List ℕ) (place : Option ℕ) → place ≡ position (λ b. eqb b 10) xs → unwrap_or place (length xs) ≡ to_line_feed xs
feed_found_at xs place e =
    let k = position_or_len (λ b. eqb b 10) xs in
    by_test (ltb k (length xs))
    (λ t. rw (e, t) (sym (first_feed xs)))
    (λ t. rw (e, t) (omega (arith, first_feed xs, ltb-false k (length xs) t, prefix_len-le-length (λ b. not (eqb b 10)) xs)))

feed_found : (xs : List ℕ) → to_line_feed xs < length xs → get_or xs (to_line_feed xs) 0 ≡ 10
unfolding to_line_feed
feed_found [] h = absurd (omega arith)
feed_found (x ∷ xs) h =
    by_test (eqb x 10)
    (λ t. rw (feed_here x xs t) (eqb-true x 10 t))
    (λ t. rw (feed_later x xs t) (feed_found xs (omega (arith, feed_later x xs t))))

-- the line goes on, and nothing else changes
abbrev going_on : SoFar → List ℕ → SoFar
going_on s line = so_far s.chart line s.status

-- any other byte belongs to the line
byte_kept : (s : SoFar) (b : ℕ) → eqb b 10 ≡ false → with_byte s b ≡ going_on s (s.line ++ (b ∷ []))
unfolding with_byte with_part
byte_kept s b t = rw t

-- .. so the bytes before a line feed belong to it
before_feed : (s : SoFar) (xs : List ℕ) → let part = take (to_line_feed xs) xs in with_bytes s part ≡ with_part s part false
unfolding with_bytes with_part
before_feed s [] = rw take-nil (ap (going_on s) (sym (append-nil s.line)))
before_feed s (x ∷ xs) =
    by_test (eqb x 10)
    (λ t. rw (feed_here x xs t) (ap (going_on s) (sym (append-nil s.line))))
    (λ t.
    let part = take (to_line_feed xs) xs in
    rw (feed_later x xs t)
    (ap (λ (next : SoFar). with_bytes next part) (byte_kept s x t)
    ∙ before_feed (going_on s (s.line ++ (x ∷ []))) xs
    ∙ ap (going_on s) (append_assoc s.line (x ∷ []) part)))

-- .. and the line feed ends it
feed_ends : (s : SoFar) (xs : List ℕ) → to_line_feed xs < length xs
    → with_bytes s (take (suc (to_line_feed xs)) xs) ≡ with_part s (take (to_line_feed xs) xs) true
unfolding with_bytes with_byte with_part after_ended
feed_ends s xs h =
    let k = to_line_feed xs in
    let part = take k xs in
    let bytes = take-suc xs k 0 h ∙ ap (λ (b : ℕ). part ++ (b ∷ [])) (feed_found xs h) in
    ap (with_bytes s) bytes ∙ reads_joined s part (10 ∷ [])
    ∙ ap (λ (t : SoFar). with_bytes t (10 ∷ [])) (before_feed s xs)
    ∙ ap (after_ended s) (append-nil (s.line ++ part))

-- a turn of the loop, from `at` up to the end that was found
pub turn : (s : SoFar) (bytes : List ℕ) (at end next : ℕ) → at ≤ length bytes → end ≡ at + to_line_feed (drop at bytes)
    → next ≡ choose (ltb end (length bytes)) (end + 1) end
    → with_bytes s (take next bytes) ≡ with_part (with_bytes s (take at bytes)) (take (end - at) (drop at bytes)) (ltb end (length bytes))
turn s bytes at end next h found behind =
    let xs = drop at bytes in
    let k = to_line_feed xs in
    let place : end ≡ at + k = found in
    let size : end - at ≡ k = omega arith in
    let before = with_bytes s (take at bytes) in
    by_order end (length bytes)
    (λ none.
    let test = le-ltb end (length bytes) none in
    let behind = rw test at behind in
    rw (test, size) (more_bytes s bytes at k next (omega arith) ∙ before_feed before xs))
    (λ some.
    let test = lt-ltb end (length bytes) some in
    let behind = rw test at behind in
    rw (test, size) (more_bytes s bytes at (suc k) next (omega arith) ∙ feed_ends before xs (omega (arith, length-drop at bytes))))

-- ---- what the program holds of the line

-- if every answer was written, nothing has failed
was_told : (s : SoFar) (told : Bool) → told ≡ true → unless_failed (not told) s ≡ s
unfolding unless_failed
was_told s told e = ap (λ (t : Bool). unless_failed (not t) s) e

not_told : (s : SoFar) (told : Bool) → told ≡ false → unless_failed (not told) s ≡ so_far s.chart [] 3
unfolding unless_failed
not_told s told e = ap (λ (t : Bool). unless_failed (not t) s) e

module _ {s : SoFar} {q : Pending} {buffer : List ℕ} (told : q.told ≡ true) where
  pub unless_told : HoldsInput s q buffer → HoldsInput (unless_failed (not q.told) s) q buffer
  unless_told held = rw (was_told s q.told told) held

  pub held_told : HoldsInput (unless_failed (not q.told) s) q buffer → HoldsInput s q buffer
  held_told held = rw (was_told s q.told told) at held

-- the line that has ended is the same, whole or cut to the buffer
ended_same : {bytes : List ℕ} {n : ℕ} (s : SoFar) (p : Pending) (line : List ℕ) → p.chart ≡ s.chart → p.status ≡ s.status
    → bytes ≡ take n line → line_room ≤ n → after_line p.chart p.status (ended_line bytes) ≡ after_ended s line
unfolding after_ended
ended_same {n = n} s p line chart status bytes room = rw (chart, status, bytes, cut_line n line room)

-- the next line begins
after_held : (s : SoFar) (r : Pending) (buffer : List ℕ) → s.line ≡ [] → IsAfter s r → HoldsInput (unless_failed (not r.told) s) r buffer
after_held s r buffer empty after =
    let none : take r.len buffer ≡ take (length buffer) [] = rw (after.none, take-nil) in
    by_test r.told
    (λ t.
    rw (was_told s r.told t)
    (record {
      chart = after.chart;
      count = omega (arith, after.none, ap length empty);
      bytes = none ∙ ap (take (length buffer)) (sym empty);
      status = after.status ∙ ap (λ (told : Bool). choose told s.status 3) t;
    }))
    (λ t.
    rw (not_told s r.told t)
    (record {
      chart = after.chart;
      count = omega (arith, after.none);
      bytes = none;
      status = after.status ∙ ap (λ (told : Bool). choose told s.status 3) t;
    }))

-- the front of two lists: cutting the first list before joining them changes nothing
cut_front : (n : ℕ) (x y : List ℕ) → take n (take n x ++ y) ≡ take n (x ++ y)
cut_front n x y =
    by_order n (length x)
    (λ h. ap (λ (l : List ℕ). take n (l ++ y)) (take_all n x h))
    (λ h. take_at (take n x) y n (omega (arith, length-take n x)) ∙ sym (take-append-le n x y (omega arith)))

module _ {before after part : List ℕ} {next : ℕ} (s : SoFar) (p : Pending) (held : HoldsInput s p before)
    (puts : Puts before p.len part after next) where
  within : p.len ≤ length before
  within = omega (arith, held.count)

  line_held : take next after ≡ take (length before) (s.line ++ part)
  line_held =
      (puts_cut within puts).bytes
      ∙ ap (λ (l : List ℕ). take (length before) (l ++ part)) held.bytes
      ∙ cut_front (length before) s.line part

  -- the line goes on
  pub held_part : HoldsInput (unless_failed false (with_part s part false))
      (record { chart = p.chart; len = next; status = p.status; told = true }) after
  unfolding with_part unless_failed
  held_part =
      let size = puts_length puts in
      record {
        chart = held.chart;
        count = omega (arith, (puts_cut within puts).place, held.count, length-append s.line part);
        bytes = line_held ∙ ap (λ (n : ℕ). take n (s.line ++ part)) (sym size);
        status = held.status;
      }

  -- the line ends
  pub held_end : (r : Pending) → line_room ≤ length before → EndsLine p (take next after) r
      → HoldsInput (unless_failed (not r.told) (with_part s part true)) r after
  unfolding with_part after_ended after_line
  held_end r room ended =
      let line = s.line ++ part in
      after_held (after_ended s line) r after refl (rw (ended_same s p line held.chart held.status line_held room) at ended)

-- ---- a turn of the loop over the bytes of a read

-- the bytes up to `at` were taken, and every answer was written
pub record TakenTo (bytes : List ℕ) (at : ℕ) (p : Pending) (before : List ℕ) (q : Pending) (after : List ℕ) : Type 0 where
  pub place : at ≤ length bytes
  pub can : CanTake q after
  pub same_size : length after ≡ length before
  pub follows : Follows (λ s. with_bytes s (take at bytes)) p before q after

pub none_taken : {p : Pending} {buffer : List ℕ} (bytes : List ℕ) → CanTake p buffer → TakenTo bytes 0 p buffer p buffer
unfolding with_bytes
none_taken bytes can =
    record { place = zero-le; can = can; same_size = refl; follows = λ s held. unless_told can.told held }

-- .. and then the part of a line up to the end that was found
pub part_taken : {p q r : Pending} {before between after : List ℕ} (bytes : List ℕ) (at end next : ℕ) → TakenTo bytes at p before q between
    → end ≡ at + to_line_feed (drop at bytes) → next ≡ choose (ltb end (length bytes)) (end + 1) end
    → Follows (λ s. with_part s (take (end - at) (drop at bytes)) (ltb end (length bytes))) q between r after
    → Follows (λ s. with_bytes s (take next bytes)) p before r after
part_taken bytes at end next taken found behind part s held =
    rw (turn s bytes at end next taken.place found behind)
    (part (with_bytes s (take at bytes)) (held_told taken.can.told (taken.follows s held)))

-- ---- the start, a read that failed, and the end of the input

pub held_start : (p : Pending) (buffer : List ℕ) → p.chart ≡ zero_chart → p.len ≡ 0 → p.status ≡ 0 → HoldsInput at_start p buffer
held_start p buffer chart none status = record { chart = chart; count = omega arith; bytes = rw (none, take-nil); status = status }

pub held_lost : {s : SoFar} {p : Pending} {buffer : List ℕ} (status : ℕ) → status ≡ 3 → HoldsInput s p buffer
    → HoldsInput (unless_failed true (with_bytes s [])) (record { chart = p.chart; len = 0; status = status; told = true }) buffer
unfolding unless_failed with_bytes
held_lost {buffer = buffer} status e held =
    record { chart = held.chart; count = omega arith; bytes = sym (take-nil (length buffer)); status = e }

-- an empty last line is passed over, and has no answer
empty_line : ended_line [] ≡ passed_over
unfolding ended_line without_return without_mark begins same_bytes line_in line_of fields_of
empty_line = refl

no_answer : status_of [] ≡ 0
unfolding status_of begins same_bytes holds_batch
no_answer = refl

none_left : (chart : Chart) (line : List ℕ) (status : ℕ) → length line ≡ 0 → at_end (so_far chart line status) ≡ so_far chart [] status
unfolding at_end after_ended after_line
none_left chart [] status h = rw (empty_line, no_answer) (ap (so_far chart []) (omega arith))
none_left chart (b ∷ line) status h = absurd (omega arith)

otherwise : (told : Bool) (x y : ℕ) → choose told x y ≡ choose (not told) y x
otherwise true x y = refl
otherwise false x y = refl

module _ (s : SoFar) (p : Pending) (buffer : List ℕ) (room : HasRoom p buffer) (held : HoldsInput s p buffer) where
  pub held_none : p.len ≡ 0 → IsEnd (at_end s) p
  held_none none =
      rw (none_left s.chart s.line s.status (omega (arith, held.count, room.enough)))
      (record { lost = false; not_told = λ e. absurd (false≢true e); chart = held.chart; status = held.status })

  pub held_last : (r : Pending) → EndsLine p (take p.len buffer) r → IsEnd (at_end s) r
  unfolding at_end
  held_last r ended =
      let after = rw (ended_same s p s.line held.chart held.status held.bytes room.enough) at ended in
      record { lost = not r.told; not_told = not-true r.told; chart = after.chart; status = after.status ∙ otherwise r.told _ 3 }

-- ---- one read

pub read_came : {p : Pending} {before after bytes : List ℕ} (r : AfterRead) → Taken bytes p before (pending r) after
    → (more r ≡ true → (pending r).told ≡ true) → IsInputRead p before r after
read_came {bytes = bytes} r taken told =
    let keeps = taken.keeps in
    record {
      came =
          record {
            bytes = take taken.count bytes;
            failed = not (pending r).told;
            within = keeps.within;
            follows = keeps.follows;
          };
      goes_on = λ more. ap not (told more);
      told = told;
    }

pub read_failed : (p : Pending) (buffer : List ℕ) (status : ℕ) → status ≡ 3
    → IsInputRead p buffer (Break (record { chart = p.chart; len = 0; status = status; told = true })) buffer
read_failed p buffer status e =
    record {
      came = record { bytes = []; failed = true; within = zero-le; follows = λ s held. held_lost status e held };
      goes_on = λ more. absurd (false≢true more);
      told = λ more. absurd (false≢true more);
    }

-- ---- one read after the other

-- bytes came, and nothing has failed: more can be taken
pub record AllCame (p : Pending) (before : List ℕ) (q : Pending) (after : List ℕ) : Type 0 where
  pub bytes : List ℕ
  pub can : CanTake q after
  pub same_size : length after ≡ length before
  pub follows : (s : SoFar) → HoldsInput s p before → HoldsInput (with_bytes s bytes) q after

pub none_came : {p : Pending} {buffer : List ℕ} → CanTake p buffer → AllCame p buffer p buffer
unfolding with_bytes
none_came can = record { bytes = []; can = can; same_size = refl; follows = λ s held. held }

pub so_came : {p q : Pending} {before after : List ℕ} → AllCame p before q after → Came p before q after
unfolding unless_failed
so_came all = record { bytes = all.bytes; failed = false; within = all.can.room.within; follows = all.follows }

-- a buffer as long as before still has room, and every answer was written
pub still_can : {p q : Pending} {before after : List ℕ} → CanTake p before → length after ≡ length before → q.len ≤ length after
    → q.told ≡ true → CanTake q after
still_can can size within told = record { room = record { within = within; enough = omega (arith, can.room.enough) }; told = told }

module _ {p q r : Pending} {before between after : List ℕ} (all : AllCame p before q between) (next : Came q between r after) where
  pub last_came : Came p before r after
  last_came =
      record {
        bytes = all.bytes ++ next.bytes;
        failed = next.failed;
        within = next.within;
        follows = λ s held. rw reads_joined (next.follows (with_bytes s all.bytes) (all.follows s held));
      }

  pub more_came : next.failed ≡ false → r.told ≡ true → length after ≡ length between → AllCame p before r after
  unfolding unless_failed
  more_came e told size =
      record {
        bytes = all.bytes ++ next.bytes;
        can = still_can all.can size next.within told;
        same_size = size ∙ all.same_size;
        follows = λ s held.
            rw (reads_joined s all.bytes next.bytes) (rw e at (next.follows (with_bytes s all.bytes) (all.follows s held)));
      }

-- Document 01, "Figures from the course": the starred figures, as document 02 changed them. A row holds what the definitions give and what
-- the paper says, both as numbers. One theorem in `proofs/Figures` covers the table. The figures without a star are among the vectors of
-- `control_chart`.
use Rattle.std.specs.Prelude.{Bool, true, false, List, [], ◌∷◌, ◌++◌, map, ℕ, ◌+◌, ◌*◌, ◌-◌, replicate, ℤ, pos, negsuc}
use Rattle.rules.specs.Outcome.{Outcome, given, refused}
use Rattle.rules.specs.Word as word
use Rattle.rules.specs.Limits.{Sums, sums_of, v_of, Limits, limits_of, beyond_control, beyond_warning}
use Rattle.rules.specs.Limits.{beyond_upper_control, beyond_lower_control, beyond_upper_warning, beyond_lower_warning}
use Rattle.rules.specs.Rejection.{RejectionAnswer, rejection}
use Rattle.rules.specs.Carried.{Given, handed_on, given_to_rounds}
use Rattle.rules.specs.Standing.{number_standing}
use Rattle.rules.specs.LastWords.{last_words}
use Rattle.rules.specs.State.{State, state, fresh}
use Rattle.rules.specs.Building as build
use Rattle.rules.specs.Verdict.{trend_test, side_test}
use Rattle.rules.specs.Machine as machine
use Rattle.rules.specs.StoredForm.{stored_form}
use Rattle.rules.specs.ReadForm as read
use Rattle.rules.specs.Double.{parts_in}
use Rattle.rules.specs.ChartLines.{Lines, duplicate, two_sided, lines_of}

pub record Row : Type 0 where
  pub defined : List ℤ
  pub figure : List ℤ

-- ---- answers as numbers

-- a refusal becomes two numbers, so that it differs from every word
abbrev pub word_numbers : Outcome ℤ → List ℤ
word_numbers (given w) = w ∷ []
word_numbers (refused n) = pos n ∷ pos n ∷ []

-- rounds, number removed, and the base
abbrev pub build_numbers : Outcome build.BuiltState → List ℤ
build_numbers (given b) = pos b.rounds ∷ pos b.removed ∷ b.state.base
build_numbers (refused n) = pos n ∷ []

-- rounds, number removed, and the words left
abbrev pub rejection_numbers : RejectionAnswer → List ℤ
rejection_numbers r = pos r.rounds ∷ pos r.removed ∷ r.base

-- n, T and V
abbrev pub sums_numbers : Sums → List ℤ
sums_numbers s = pos s.n ∷ s.t ∷ v_of s ∷ []

-- n, T and Q that each round is given
abbrev pub given_numbers : List Given → List ℤ
given_numbers [] = []
given_numbers (g ∷ gs) = pos g.sums.n ∷ g.sums.t ∷ g.sums.q ∷ given_numbers gs

abbrev pub truth : Bool → ℤ
truth false = pos 0
truth true = pos 1

-- the verdict of a post; 1 for a reanalysis that passed, 0 for one that failed. Any other answer, also a refusal, becomes −1
abbrev pub verdict_number : machine.Answer → ℤ
verdict_number (machine.judged w v) = pos v
verdict_number (machine.reanalysed w passed) = truth passed
verdict_number machine.corrected = negsuc 0
verdict_number (machine.renewed rounds removed) = negsuc 0
verdict_number (machine.refused n) = negsuc 0

-- these numbers for each call of a list. The first call takes the chart from building. A refused building gives no numbers
abbrev pub verdicts_of : Outcome build.BuiltState → List machine.Call → List ℤ
verdicts_of (given b) calls = map verdict_number (machine.answers b.state calls)
verdicts_of (refused n) calls = []

-- the same for a chart that was read
abbrev pub verdicts_after_reading : Outcome State → List machine.Call → List ℤ
verdicts_after_reading (given s) calls = map verdict_number (machine.answers s calls)
verdicts_after_reading (refused n) calls = []

-- rounds and number removed of a renewal, and the base after it. A refusal becomes its number, and the base is not told
abbrev pub renewal_numbers : machine.Answer → List ℤ → List ℤ
renewal_numbers (machine.judged w v) base = []
renewal_numbers (machine.reanalysed w passed) base = []
renewal_numbers machine.corrected base = []
renewal_numbers (machine.renewed rounds removed) base = pos rounds ∷ pos removed ∷ base
renewal_numbers (machine.refused n) base = pos n ∷ []

-- a renewal of the free chart with this base and this series, of kind 1
abbrev pub renewal_of : List ℤ → List ℤ → List ℤ
renewal_of base series =
    let next = machine.step (state 1 base series 0 0) machine.renewal in
    renewal_numbers next.answer next.state.base

-- lines times 256, from the lowest to the highest
abbrev pub lines_numbers : Lines → List ℤ
lines_numbers (duplicate mean upper_warning upper_control) = parts_in mean ∷ parts_in upper_warning ∷ parts_in upper_control ∷ []
lines_numbers (two_sided mean lower_warning upper_warning lower_control upper_control) =
    parts_in lower_control ∷ parts_in lower_warning ∷ parts_in mean ∷ parts_in upper_warning ∷ parts_in upper_control ∷ []

-- ---- bases

-- "Base A (kind 2): 9900 seven times, 10100 seven times, 10000."
abbrev pub base_a : List ℤ
base_a = replicate 7 (pos 9900) ++ (replicate 7 (pos 10100) ++ (pos 10000 ∷ []))

abbrev pub limits_a : Limits
limits_a = limits_of 2 base_a

-- "Base C: 10000 seven times, 10001 eight times." The course gives five lines for it, so its kind has lower limits: the table takes kind 2
abbrev pub base_c : List ℤ
base_c = replicate 7 (pos 10000) ++ replicate 8 (pos 10001)

-- "Kind 1, 1000 fourteen times and 2000"
abbrev pub fourteen_and_one : List ℤ
fourteen_and_one = replicate 14 (pos 1000) ++ (pos 2000 ∷ [])

-- document 02, Q-4: a base. With three words 0 after it, the last 15, 16, 17 and 18 words leave 14, 15, 14 and 18
abbrev pub longer_leaves_fewer : List ℤ
longer_leaves_fewer = pos 15 ∷ pos 0 ∷ pos 0 ∷ pos 0 ∷ pos 6 ∷ pos 15 ∷ pos 0 ∷ pos 0 ∷ pos 0 ∷ pos 4 ∷ replicate 5 (pos 0)

-- document 02, Q-4: a base. With one word 0 after it no tail will do
abbrev pub two_high : List ℤ
two_high = pos 100 ∷ pos 70 ∷ replicate 13 (pos 0)

-- how many of the last k words stand, for kind 1
abbrev pub stand_of_last : List ℤ → ℕ → ℤ
stand_of_last words k = pos (number_standing 1 (last_words k words))

-- words of which rounds remove one each: of the first list 20000, 1728, 144, 12 and 1, of the second the words below 0
abbrev pub five_to_remove : List ℤ
five_to_remove = replicate 10 (pos 0) ++ (pos 1 ∷ pos 12 ∷ pos 144 ∷ pos 1728 ∷ pos 20000 ∷ [])

abbrev pub five_below_zero : List ℤ
five_below_zero = replicate 10 (pos 0) ++ (negsuc 0 ∷ negsuc 11 ∷ negsuc 143 ∷ negsuc 1727 ∷ negsuc 19999 ∷ [])

-- ten words 0 and one of 100, given with the sums of other words: n 30, T 100, Q 10000
abbrev pub with_other_sums : Given
with_other_sums = record { sums = record { n = 30; t = pos 100; q = pos 10000 }; words = replicate 10 (pos 0) ++ (pos 100 ∷ []) }

-- a test of the word on a limit, and of the next word outwards. If a limit is a whole number, it is the last word not beyond it
abbrev pub edge : (ℤ → Bool) → ℤ → ℤ → List ℤ
edge test on outside = truth (test on) ∷ truth (test outside) ∷ []

-- ---- calls

-- a post of kind 2 whose word is w, and such a reanalysis: found w, made up 10000
abbrev pub check_post : ℕ → machine.Call
check_post w = machine.post 2 (pos w) (pos 10000) (pos 0)

abbrev pub check_reanalysis : ℕ → machine.Call
check_reanalysis w = machine.reanalysis 2 (pos w) (pos 10000) (pos 0)

-- a post of kind 1 whose word is w: X1 and X2 lie w above and w below 20000
abbrev pub duplicate_post : ℕ → machine.Call
duplicate_post w = machine.post 1 (pos (20000 + w)) (pos (20000 - w)) (pos 0)

-- calls on the chart that is built from base A
abbrev pub verdicts_on_a : List machine.Call → List ℤ
verdicts_on_a calls = verdicts_of (build.building 2 base_a) calls

-- seven words from w on, in steps of ten
abbrev pub seven_in_tens : ℕ → List ℕ
seven_in_tens w = w ∷ (w + 10) ∷ (w + 20) ∷ (w + 30) ∷ (w + 40) ∷ (w + 50) ∷ (w + 60) ∷ []

unfoldable pub table : List Row
table =
    -- "X1 1, X2 2: 6667." Document 02, Q-3: "65 and 63 give 312, the spike 0, 1, 32 gives −312, and 200005 over 100000 gives 20000". Before
    -- it they were 313, −313 and refusal 7
    record { defined = word_numbers (word.word_alone 1 (pos 1) (pos 2) (pos 0)); figure = pos 6667 ∷ [] }
    ∷ record { defined = word_numbers (word.word_alone 1 (pos 65) (pos 63) (pos 0)); figure = pos 312 ∷ [] }
    ∷ record { defined = word_numbers (word.word_alone 3 (pos 0) (pos 1) (pos 32)); figure = negsuc 311 ∷ [] }
    ∷ record { defined = word_numbers (word.word_alone 3 (pos 200005) (pos 0) (pos 100000)); figure = pos 20000 ∷ [] }
    -- "A: mean 10000, S 100": T is n·10000, and V is n(n − 1)·100²
    ∷ record { defined = sums_numbers (sums_of base_a); figure = pos 15 ∷ pos (15 * 10000) ∷ pos (15 * 14 * 100 * 100) ∷ [] }
    -- "limits 9700, 9800, 10200, 10300": the lower and the upper control limit, the lower and the upper warning limit. Then `beyond_control`
    -- and `beyond_warning` at one limit each
    ∷ record { defined = edge (beyond_lower_control limits_a) (pos 9700) (pos 9699); figure = pos 0 ∷ pos 1 ∷ [] }
    ∷ record { defined = edge (beyond_upper_control limits_a) (pos 10300) (pos 10301); figure = pos 0 ∷ pos 1 ∷ [] }
    ∷ record { defined = edge (beyond_lower_warning limits_a) (pos 9800) (pos 9799); figure = pos 0 ∷ pos 1 ∷ [] }
    ∷ record { defined = edge (beyond_upper_warning limits_a) (pos 10200) (pos 10201); figure = pos 0 ∷ pos 1 ∷ [] }
    ∷ record { defined = edge (beyond_control limits_a) (pos 9700) (pos 9699); figure = pos 0 ∷ pos 1 ∷ [] }
    ∷ record { defined = edge (beyond_warning limits_a) (pos 10200) (pos 10201); figure = pos 0 ∷ pos 1 ∷ [] }
    -- "one round"
    ∷ record { defined = build_numbers (build.building 2 base_a); figure = pos 1 ∷ pos 0 ∷ base_a }
    -- "2000 removed, two rounds, one removed, base of 14, S = 0"
    ∷ record { defined = rejection_numbers (rejection 1 fourteen_and_one); figure = pos 2 ∷ pos 1 ∷ replicate 14 (pos 1000) }
    ∷ record { defined = sums_numbers (sums_of (replicate 14 (pos 1000))); figure = pos 14 ∷ pos (14 * 1000) ∷ pos 0 ∷ [] }
    -- with S = 0 the limit is the mean. 1000 is not beyond it. 1001, the word of "Post 1001: 1", is beyond it
    ∷ record { defined = edge (beyond_control (limits_of 1 (replicate 14 (pos 1000)))) (pos 1000) (pos 1001); figure = pos 0 ∷ pos 1 ∷ [] }
    -- "Post 1001: 1." Document 02, Q-4: "Stored charts with a base of 10 to 14 are still read and posted to", so the chart is read
    ∷ record {
      defined = verdicts_after_reading (read.reading (stored_form (fresh 1 (replicate 14 (pos 1000))))) (duplicate_post 1001 ∷ []);
      figure = pos 1 ∷ [];
    }
    -- "A, post 10300: 0 (first point)." "Post 10301: 1."
    ∷ record { defined = verdicts_on_a (map check_post (10300 ∷ [])); figure = pos 0 ∷ [] }
    ∷ record { defined = verdicts_on_a (map check_post (10301 ∷ [])); figure = pos 1 ∷ [] }
    -- "A, posts 10250, 10210: second is 2." "Posts 10250, 9790: second is 0."
    ∷ record { defined = verdicts_on_a (map check_post (10250 ∷ 10210 ∷ [])); figure = pos 0 ∷ pos 2 ∷ [] }
    ∷ record { defined = verdicts_on_a (map check_post (10250 ∷ 9790 ∷ [])); figure = pos 0 ∷ pos 0 ∷ [] }
    -- "A, posts 9950, 9960, .., 10010 in tens: only the seventh is 3; reanalysis 9995 passes."
    ∷ record {
      defined = verdicts_on_a (map check_post (seven_in_tens 9950) ++ (check_reanalysis 9995 ∷ []));
      figure = replicate 6 (pos 0) ++ (pos 3 ∷ pos 1 ∷ []);
    }
    -- document 02, Q-1: "The course's seven posts from 10010 to 10070 now end in 4." Before it the seventh was 3. Both apply
    ∷ record { defined = verdicts_on_a (map check_post (seven_in_tens 10010)); figure = replicate 6 (pos 0) ++ (pos 4 ∷ []) }
    ∷ record { defined = truth (trend_test (map pos (seven_in_tens 10010))) ∷ []; figure = pos 1 ∷ [] }
    ∷ record { defined = truth (side_test limits_a (map pos (seven_in_tens 10010))) ∷ []; figure = pos 1 ∷ [] }
    -- "C: lines times 256 are 2559740, 2559873, 2560136, 2560400, 2560533." Rejection removes none of its words
    ∷ record { defined = build_numbers (build.building 2 base_c); figure = pos 1 ∷ pos 0 ∷ base_c }
    ∷ record {
      defined = lines_numbers (lines_of (limits_of 2 base_c));
      figure = pos 2559740 ∷ pos 2559873 ∷ pos 2560136 ∷ pos 2560400 ∷ pos 2560533 ∷ [];
    }
    -- document 02, Q-5: n, T and Q that each of six rounds is given, the last included. T falls with a word above 0 that is removed, and
    -- rises with one below 0
    ∷ record {
      defined = given_numbers (given_to_rounds 1 five_to_remove);
      figure = pos 15 ∷ pos 21885 ∷ pos 403006865 ∷ pos 14 ∷ pos 1885 ∷ pos 3006865 ∷ pos 13 ∷ pos 157 ∷ pos 20881
          ∷ pos 12 ∷ pos 13 ∷ pos 145 ∷ pos 11 ∷ pos 1 ∷ pos 1 ∷ pos 10 ∷ pos 0 ∷ pos 0 ∷ [];
    }
    ∷ record {
      defined = given_numbers (given_to_rounds 3 five_below_zero);
      figure = pos 15 ∷ negsuc 21884 ∷ pos 403006865 ∷ pos 14 ∷ negsuc 1884 ∷ pos 3006865 ∷ pos 13 ∷ negsuc 156 ∷ pos 20881
          ∷ pos 12 ∷ negsuc 12 ∷ pos 145 ∷ pos 11 ∷ negsuc 0 ∷ pos 1 ∷ pos 10 ∷ pos 0 ∷ pos 0 ∷ [];
    }
    -- a round goes by the sums that it is given, whatever they are: it removes 100, and hands on (29; 0, 0), which are not the sums of the
    -- ten words left
    ∷ record { defined = given_numbers (handed_on 1 with_other_sums ∷ []); figure = pos 29 ∷ pos 0 ∷ pos 0 ∷ [] }
    ∷ record { defined = (handed_on 1 with_other_sums).words; figure = replicate 10 (pos 0) }
    -- document 02, Q-4: "The course's fourteen words of 1000 with one of 2000 no longer build." Fifteen words of 1000 with one of 2000 do
    ∷ record { defined = build_numbers (build.building 1 fourteen_and_one); figure = pos 16 ∷ [] }
    ∷ record {
      defined = build_numbers (build.building 1 (pos 1000 ∷ fourteen_and_one));
      figure = pos 2 ∷ pos 1 ∷ replicate 15 (pos 1000);
    }
    -- "the shortest tail": a longer tail may leave fewer words than a shorter one. The renewal uses the last 16 words
    ∷ record {
      defined = map (stand_of_last (longer_leaves_fewer ++ replicate 3 (pos 0))) (15 ∷ 16 ∷ 17 ∷ 18 ∷ []);
      figure = pos 14 ∷ pos 15 ∷ pos 14 ∷ pos 18 ∷ [];
    }
    ∷ record {
      defined = renewal_of longer_leaves_fewer (replicate 3 (pos 0));
      figure = pos 2 ∷ pos 1 ∷ pos 0 ∷ pos 0 ∷ pos 6 ∷ pos 0 ∷ pos 0 ∷ pos 0 ∷ pos 4 ∷ replicate 8 (pos 0);
    }
    -- "Rounds and removals are those of the tail used": the last 15 words lose one in two rounds, the last 16 lose none
    ∷ record {
      defined = rejection_numbers (rejection 1 (pos 1 ∷ replicate 14 (pos 0)));
      figure = pos 2 ∷ pos 1 ∷ replicate 14 (pos 0);
    }
    ∷ record {
      defined = renewal_of (pos 1 ∷ pos 1 ∷ replicate 13 (pos 0)) (pos 0 ∷ []);
      figure = pos 1 ∷ pos 0 ∷ pos 1 ∷ pos 1 ∷ replicate 14 (pos 0);
    }
    -- 16 "if no tail will do". With one more post a tail will do
    ∷ record { defined = renewal_of two_high (pos 0 ∷ []); figure = pos 16 ∷ [] }
    ∷ record { defined = renewal_of two_high (pos 0 ∷ pos 0 ∷ []); figure = pos 1 ∷ pos 0 ∷ replicate 15 (pos 0) }
    ∷ []

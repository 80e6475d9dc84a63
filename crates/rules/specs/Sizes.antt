-- The numbers that are constants of the chart's type in the code: "The limits 15, 32, 366 and 256", and also 10.
use Rattle.std.specs.Prelude.{ℕ}

-- "Building takes a chart kind and 15..32 words". Renewal needs 15 words of base and series. Document 02, Q-4: building and renewal ask
-- that at least 15 words stand after rejection
abbrev pub base_wanted : ℕ
base_wanted = 15

abbrev pub base_most : ℕ
base_most = 32

-- "series (words posted, 0..366)"
abbrev pub series_most : ℕ
series_most = 366

-- "the greatest multiple of 1/256"
abbrev pub line_parts : ℕ
line_parts = 256

-- "the 10..32 base words". Document 02, Q-4: "Stored charts with a base of 10 to 14 are still read and posted to"
abbrev pub base_least : ℕ
base_least = 10

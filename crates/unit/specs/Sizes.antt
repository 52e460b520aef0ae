-- How many channels a unit has, and how large a remainder is at most. Definitions only.
use Rattle.std.specs.Prelude.{ℕ}

-- left and right
abbrev pub channel_count : ℕ
channel_count = 2

-- 2^21: half of 2^22
abbrev pub remainder_size : ℕ
remainder_size = 2097152

-- Where the targets stand among a unit's numbers. Definitions only.
use Rattle.std.specs.Prelude.{cond, List, ℕ, zero, suc, ◌+◌, ◌*◌, ℤ, set}
use Rattle.settings.specs.Settings.{names}
use Rattle.numbers.specs.Layout.{channel_size, left_place, place}

-- the numbers of a channel begin here: one channel after the other
abbrev pub channel_place : ℕ → ℕ
channel_place channel = left_place + channel_size * channel

-- "y1, y2, gain, target, remainder of each section"
abbrev pub target_place : ℕ → ℕ → ℕ
target_place channel band = channel_place channel + (place band + 3)

-- "the volume, its target"
abbrev pub volume_target : ℕ
volume_target = 1

-- ---- the target of a band stored

module _ (side band : ℕ) (target : ℤ) where
  -- in a channel, where the side names it
  abbrev pub named : ℕ → List ℤ → List ℤ
  named channel l = cond (names side channel) (set l (target_place channel band) target) l

  -- in each of the first channels that the side names
  abbrev pub named_below : ℕ → List ℤ → List ℤ
  named_below zero l = l
  named_below (suc channel) l = named channel (named_below channel l)

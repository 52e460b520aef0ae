-- One channel of so many frames: a column of the frames, in which a sample stands `size` bytes behind the last frame's. Definitions only.
use Rattle.std.specs.Prelude.{List, ℕ, zero, suc, ◌+◌, ◌*◌, ℤ, set}
use Rattle.bands.specs.declared.Band.{Band}
use Rattle.levels.specs.declared.Level.{Level}
use Rattle.levels.specs.Levels.{volume_slope, moved}
use Rattle.unit.specs.declared.Channel.{Channel}
use Rattle.unit.specs.Frame.{channel_frame, mix, output}
use Rattle.frames.specs.Bytes.{word_at, low_byte, high_byte}

-- the word of frame k in the column whose first sample stands at `at`
abbrev pub column_word : List ℕ → ℕ → ℕ → ℕ → ℤ
column_word input size at k = word_at input (size * k + at)

-- the volume after n frames
unfoldable pub volume_played : Level → ℕ → Level
volume_played volume zero = volume
volume_played volume (suc n) = moved volume_slope (volume_played volume n)

-- a channel after n frames, on word xs k in frame k
unfoldable pub channel_played : List Band → (ℕ → ℤ) → Channel → ℕ → Channel
channel_played bands xs c zero = c
channel_played bands xs c (suc n) = channel_frame bands (xs n) (channel_played bands xs c n)

-- what is heard of it in frame k
abbrev pub sample_heard : Level → List Band → (ℕ → ℤ) → Channel → ℕ → ℤ
sample_heard volume bands xs c k = output (volume_played volume (suc k)).present (mix (channel_played bands xs c (suc k)))

-- a sample stored as two bytes
abbrev pub put_sample : List ℕ → ℕ → ℤ → List ℕ
put_sample bytes at s = set (set bytes at (low_byte s)) (at + 1) (high_byte s)

-- two neighbouring columns stored: so many samples of each, the first from `at` on, the second two bytes behind
unfoldable pub columns_stored : ℕ → ℕ → (ℕ → ℤ) → (ℕ → ℤ) → List ℕ → ℕ → List ℕ
columns_stored size at first second room zero = room
columns_stored size at first second room (suc n) =
    put_sample (put_sample (columns_stored size at first second room n) (size * n + at) (first n)) (size * n + (at + 2)) (second n)

-- So many frames, for any number of channels. Definitions only.
use Rattle.std.specs.Prelude.{List, [], ◌++◌, ℕ, zero, suc, ◌*◌, ℤ}
use Rattle.unit.specs.declared.Unit.{Unit}
use Rattle.unit.specs.Frame.{unit_frame, heard}
use Rattle.frames.specs.Bytes.{words_at, frame_size, bytes_of}

-- frames on these words: word c of frame k, k from 0, is for channel c
module _ (words : ℕ → List ℤ) (u : Unit) where
  -- the unit after the first n of them
  unfoldable pub played_on : ℕ → Unit
  played_on zero = u
  played_on (suc n) = unit_frame (words n) (played_on n)

  -- what is heard of them
  unfoldable pub sound_on : ℕ → List ℕ
  sound_on zero = []
  sound_on (suc n) = sound_on n ++ bytes_of (heard (played_on (suc n)))

-- the words of a block
abbrev pub block_words : ℕ → List ℕ → ℕ → List ℤ
block_words channels input n = words_at channels input (frame_size channels * n)

module _ (channels : ℕ) (u : Unit) (input : List ℕ) where
  -- the unit after the first n frames of the input
  abbrev pub played : ℕ → Unit
  played n = played_on (block_words channels input) u n

  -- what is heard of them
  abbrev pub sound : ℕ → List ℕ
  sound n = sound_on (block_words channels input) u n

-- An accepted block. Definitions only.
use Rattle.std.specs.Prelude.{◌≡◌, List, ◌++◌, ℕ, length, drop}
use Rattle.unit.specs.declared.Unit.{Unit}
use Rattle.unit.specs.Sizes.{channel_count}
use Rattle.frames.specs.Bytes.{frame_count}
use Rattle.frames.specs.Played.{played, sound}

-- the unit after all frames, and the output
pub record RunGives (u : Unit) (input room : List ℕ) (after : Unit) (filled : List ℕ) : Type 0 where
  pub unit : after ≡ played channel_count u input (frame_count channel_count input)
  pub bytes : filled ≡ sound channel_count u input (frame_count channel_count input) ++ drop (length input) room

-- A block played through the unit whose numbers are lent. Definitions only.
use Rattle.std.specs.Prelude.{◌≡◌, List, ◌++◌, ℕ, ℤ, length, drop}
use Rattle.refusals.specs.Numbers.{Verdict}
use Rattle.unit.specs.Sizes.{channel_count}
use Rattle.frames.specs.Bytes.{frame_count}
use Rattle.frames.specs.Played.{played, sound}
use Rattle.blocks.specs.Block.{block_played, block_output}
use Rattle.numbers.specs.Layout.{numbers_of, unit_of, numbers_after}

-- the verdict, the numbers after the block, and the output
pub record PlayGives (l : List ℤ) (input room : List ℕ) (verdict : Verdict) (after : List ℤ) (filled : List ℕ) : Type 0 where
  pub verdict_is : verdict ≡ (block_played channel_count (unit_of l) input (length room)).verdict
  pub numbers_are : after ≡ numbers_after l (block_played channel_count (unit_of l) input (length room)).verdict (block_played channel_count (unit_of l) input (length room)).unit
  pub output_is : filled ≡ block_output channel_count (unit_of l) input room

-- ---- an accepted block

-- the numbers of the unit after all frames, and their sound, with the bytes beyond as they were
pub record RunGives (l : List ℤ) (input room : List ℕ) (after : List ℤ) (filled : List ℕ) : Type 0 where
  pub numbers_are : after ≡ numbers_of (played channel_count (unit_of l) input (frame_count channel_count input))
  pub bytes : filled ≡ sound channel_count (unit_of l) input (frame_count channel_count input) ++ drop (length input) room

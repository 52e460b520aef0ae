-- What playing does with standard input. No contract can say which bytes a read of the system brings; so each says that there are bytes
-- of which it holds. Definitions only.
use Rattle.std.specs.Prelude.{◌≡◌, List, ◌++◌, ℕ, ◌+◌, ◌≤◌, ◌<◌, length, take}
use Rattle.unit.specs.declared.Unit.{Unit}
use Rattle.unit.specs.Sizes.{channel_count}
use Rattle.unit.specs.Fit.{Fit}
use Rattle.frames.specs.Bytes.{frame_size}
use Rattle.stream.specs.Claim.{one_block, begun, Ready}
use Rattle.playing.specs.declared.Progress.{Progress}
use Rattle.playing.specs.declared.Sounded.{Sounded}

-- how many bytes a read brings at most
abbrev pub read_size : ℕ
read_size = 65536

-- the sound is that of a piece's whole frames through this unit, which is fit
pub record IsSound (u : Unit) (piece sound : List ℕ) : Type 0 where
  pub fit : Fit u
  pub sound_is : sound ≡ (one_block u piece).sound

-- ---- so many bytes at the front of the input

-- the unit is fit and has two channels, and the output has room for all that the input has
pub record SoundAsks (u : Unit) (input : List ℕ) (count : ℕ) (output : List ℕ) : Type 0 where
  pub ready : Ready (begun u)
  pub count_fits : count ≤ length input
  pub output_room : length input ≤ length output

-- the piece is one block, and the tail, less than a frame, stands at the front of the input
pub record SoundGives (u : Unit) (piece : List ℕ) (u' : Unit) (after : Sounded) (input' : List ℕ) : Type 0 where
  pub unit_is : u' ≡ (one_block u piece).unit
  pub held_is : take after.held input' ≡ (one_block u piece).held
  pub held_count : after.held ≡ length (one_block u piece).held
  pub held_few : after.held < frame_size channel_count
  pub ready : Ready (begun u')

-- ---- one read

-- it can be read on: the unit is fit and has two channels, there is room behind what is held, and the output has room for all that the input has
pub record TurnAsks (u : Unit) (p : Progress) (input output : List ℕ) : Type 0 where
  pub ready : Ready (begun u)
  pub input_room : p.held < length input
  pub output_room : length input ≤ length output

-- what was held and what was read, some bytes and no more than may be, are one block
pub record TurnGives (u : Unit) (p : Progress) (input : List ℕ) (u' : Unit) (after : Progress) (input' : List ℕ) : Type 0 where
  pub bytes : List ℕ
  pub unit_is : u' ≡ (one_block u (take p.held input ++ bytes)).unit
  pub held_is : take after.held input' ≡ (one_block u (take p.held input ++ bytes)).held
  pub held_count : after.held ≡ length (one_block u (take p.held input ++ bytes)).held
  pub held_few : after.held < frame_size channel_count
  pub left_is : length bytes + after.left ≡ p.left
  pub comes : 0 < length bytes
  pub ready : Ready (begun u')

-- ---- all reads

-- what is played first is no more than a read brings, and the unit can play it
pub record PlayAsks (u : Unit) (first : List ℕ) : Type 0 where
  pub ready : Ready (begun u)
  pub first_few : length first ≤ read_size

-- "its sound and sheet are those of one block": the unit at the end is that of one block of the first bytes and all that was read behind them, no
-- more than may be, and the tail of it is held
pub record PlayGives (u : Unit) (first : List ℕ) (most : ℕ) (u' : Unit) (after : Progress) : Type 0 where
  pub bytes : List ℕ
  pub unit_is : u' ≡ (one_block u (first ++ bytes)).unit
  pub held_count : after.held ≡ length (one_block u (first ++ bytes)).held
  pub fit : Fit u'
  pub left_is : length bytes + after.left ≡ most

-- That a stream, cut anywhere, is played as one block: docs/SPECIFICATION.md, The unit, loading and blocks. Definitions only; `CutAnywhere`,
-- at the end, is proved in proofs/Holds.antt.
--
-- What it rests on. `advanced` and `advanced_output` (specs/Advance.antt) are what the contract of `stream::advance` promises, for all inputs. Under them stand frames (frames/specs/Played.antt), a block of them (blocks/specs/Block.antt) and fitness (unit/specs/Fit.antt).
use Rattle.std.specs.Prelude.{◌≡◌, List, [], ◌∷◌, ◌++◌, ℕ, ◌≤◌, length, take, drop}
use Rattle.refusals.specs.Numbers.{Accepted}
use Rattle.unit.specs.declared.Unit.{Unit}
use Rattle.unit.specs.Sizes.{channel_count}
use Rattle.unit.specs.Fit.{Fit}
use Rattle.blocks.specs.Block.{block_played, block_output}
use Rattle.stream.specs.Advance.{whole_frames, tail_bytes, advanced, advanced_output}

-- a stream between two reads: the unit, the bytes of a frame that is not whole yet, and the sound so far
pub record Stream : Type 0 where
  pub unit : Unit
  pub held : List ℕ
  pub sound : List ℕ

-- the whole frames of these bytes as one block, with an output as long as they are; the tail is held
unfoldable pub one_block : Unit → List ℕ → Stream
one_block u bytes =
    let frames = whole_frames channel_count bytes in
    record { unit = (block_played channel_count u frames (length frames)).unit; held = tail_bytes channel_count bytes; sound = block_output channel_count u frames frames }

-- before the first read
abbrev pub begun : Unit → Stream
begun u = record { unit = u; held = []; sound = [] }

-- after one read of these bytes: the held ones and these are played, and their sound joins what was heard
unfoldable pub next : Stream → List ℕ → Stream
next s bytes =
    let block = one_block s.unit (s.held ++ bytes) in
    record { unit = block.unit; held = block.held; sound = s.sound ++ block.sound }

-- after reads in turn
abbrev pub streamed : Stream → List (List ℕ) → Stream
streamed s [] = s
streamed s (bytes ∷ reads) = streamed (next s bytes) reads

-- all bytes that were read
abbrev pub all_of : List (List ℕ) → List ℕ
all_of [] = []
all_of (bytes ∷ reads) = bytes ++ all_of reads

-- `stream::advance`, lent the held bytes and those that came, and an output with room for them, is the next read
pub record Advances (s : Stream) (bytes room : List ℕ) : Type 0 where
  pub accepts : (advanced channel_count s.unit (s.held ++ bytes) (length room)).verdict ≡ Accepted
  pub unit_is : (advanced channel_count s.unit (s.held ++ bytes) (length room)).unit ≡ (next s bytes).unit
  -- the held bytes are those behind the played ones
  pub played_few : (advanced channel_count s.unit (s.held ++ bytes) (length room)).played ≤ length (s.held ++ bytes)
  pub held_is : drop (advanced channel_count s.unit (s.held ++ bytes) (length room)).played (s.held ++ bytes) ≡ (next s bytes).held
  pub held_count : (advanced channel_count s.unit (s.held ++ bytes) (length room)).held ≡ length (next s bytes).held
  -- the sound stands at the front of the output
  pub sound_is :
      s.sound ++ take (advanced channel_count s.unit (s.held ++ bytes) (length room)).played (advanced_output channel_count s.unit (s.held ++ bytes) room)
      ≡ (next s bytes).sound

-- a stream that can go on: its unit is fit, and has two channels, as every unit that a program holds
pub record Ready (s : Stream) : Type 0 where
  pub fit : Fit s.unit
  pub channels_are : length s.unit.channels ≡ channel_count

pub record CutAnywhere : Type 0 where
  pub advances : (s : Stream) (bytes room : List ℕ) → Ready s → length (s.held ++ bytes) ≤ length room → Advances s bytes room
  pub stays_ready : (s : Stream) (bytes : List ℕ) → Ready s → Ready (next s bytes)
  -- "its sound and sheet are those of one block"
  pub one_block : (u : Unit) (reads : List (List ℕ)) → Fit u → streamed (begun u) reads ≡ one_block u (all_of reads)

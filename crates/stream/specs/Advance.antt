-- Playing one piece of a stream, for any number of channels. Definitions only, by docs/SPECIFICATION.md, The unit, loading and blocks.
use Rattle.std.specs.Prelude.{cond, List, ◌++◌, ℕ, ◌-◌, ◌%◌, Result, Ok, Err, length, take, drop}
use Rattle.refusals.specs.Numbers.{is_accepted, Verdict, Accepted}
use Rattle.refusals.specs.declared.Refusal.{Refusal}
use Rattle.unit.specs.Answered.{Answered}
use Rattle.unit.specs.declared.Unit.{Unit}
use Rattle.frames.specs.Bytes.{frame_size}
use Rattle.blocks.specs.Block.{block_played, block_output}
use Rattle.stream.specs.declared.Advanced.{Advanced}

module _ (channels : ℕ) (input : List ℕ) where
  -- how many of the bytes make whole frames
  abbrev pub whole_count : ℕ
  whole_count = length input - length input % frame_size channels

  -- "the whole frames"
  abbrev pub whole_frames : List ℕ
  whole_frames = take whole_count input

  -- "a tail of one to three bytes": what stands behind them, which may be nothing
  abbrev pub tail_bytes : List ℕ
  tail_bytes = drop whole_count input

-- what playing a piece leaves: the answer, the unit after it, and how many bytes were played and are held
pub record Piece : Type 0 where
  pub verdict : Verdict
  pub unit : Unit
  pub played : ℕ
  pub held : ℕ

-- read from what `advance` hands back of so many bytes, and the unit after it: of a refused piece none is played and all are held
abbrev pub piece_of : ℕ → Result Advanced Refusal → Unit → Piece
piece_of given (Ok a) unit = record { verdict = Accepted; unit = unit; played = a.played; held = a.held }
piece_of given (Err refusal) unit = record { verdict = Err refusal; unit = unit; played = 0; held = given }

module _ (channels : ℕ) (u : Unit) (input : List ℕ) where
  -- the block of the whole frames, with an output of so many bytes
  abbrev pub piece_block : ℕ → Answered
  piece_block room = block_played channels u (whole_frames channels input) room

  -- how many bytes are played: those of the whole frames, or none of a refused piece
  abbrev pub played_count : ℕ → ℕ
  played_count room = cond (is_accepted (piece_block room).verdict) (whole_count channels input) 0

  -- the answer is that of the block; the bytes that were not played are held
  unfoldable pub advanced : ℕ → Piece
  advanced room =
      record {
        verdict = (piece_block room).verdict;
        unit = (piece_block room).unit;
        played = played_count room;
        held = length input - played_count room;
      }

  -- the output is that of the block
  unfoldable pub advanced_output : List ℕ → List ℕ
  advanced_output room = block_output channels u (whole_frames channels input) room

-- the bytes from a place on stand at the front; behind them stands what stood there
unfoldable pub tail_first : ℕ → List ℕ → List ℕ
tail_first from bytes = drop from bytes ++ drop (length (drop from bytes)) bytes

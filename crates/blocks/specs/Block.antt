-- Playing a block of frames, for any number of channels. Definitions only, by docs/SPECIFICATION.md, The unit, loading and blocks.
use Rattle.std.specs.Prelude.{cond, List, ◌++◌, ℕ, ◌%◌, eqb, leb, length, drop}
use Rattle.refusals.specs.Numbers.{unless, is_accepted, Verdict, Accepted}
use Rattle.refusals.specs.declared.Refusal.TheVariants.{InputLength, OutputShort, Unfit}
use Rattle.unit.specs.declared.Unit.{Unit}
use Rattle.unit.specs.Answered.{Answered}
use Rattle.unit.specs.Fit.{unit_fits}
use Rattle.frames.specs.Bytes.{frame_size, frame_count}
use Rattle.frames.specs.Played.{played, sound}

-- "5 input bytes no multiple of four; 6 output shorter than input": what a block is refused for, whatever the unit
abbrev pub block_arguments : ℕ → ℕ → ℕ → Verdict
block_arguments channels given room =
    unless (eqb (given % frame_size channels) 0) InputLength (unless (leb given room) OutputShort Accepted)

-- "Orders and blocks test the unit ahead of all else: an unfit one is 14"
unfoldable pub block_verdict : ℕ → Unit → ℕ → ℕ → Verdict
block_verdict channels u given room = unless (unit_fits u) Unfit (block_arguments channels given room)

module _ (channels : ℕ) (u : Unit) (input : List ℕ) where
  -- the answer: accepted, the unit after all frames; refused, "unit and output unchanged"
  unfoldable pub block_played : ℕ → Answered
  block_played room =
      record {
        verdict = block_verdict channels u (length input) room;
        unit = cond (is_accepted (block_verdict channels u (length input) room)) (played channels u input (frame_count channels input)) u;
      }

  -- the output: accepted, the frames, and "output bytes beyond the block keep their contents"
  unfoldable pub block_output : List ℕ → List ℕ
  block_output room =
      cond (is_accepted (block_verdict channels u (length input) (length room))) (sound channels u input (frame_count channels input) ++ drop (length input) room) room

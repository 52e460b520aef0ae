-- A list of calls, what it does to the unit, and what is heard of it: docs/SPECIFICATION.md, The exact sound and the distance. Definitions
-- only; the claims about such lists cite them.
--
-- "Take a list of calls, each a level order or a block of frames, refused ones included. It begins with a cleared unit with an accepted
-- band set. Each call gets the unit that the last one handed back, and nobody else changes it meanwhile. Frames are numbered from 1 over
-- the accepted blocks."
--
-- A side is a channel here, and the number of channels is a parameter: the product has two. Lists of frames begin with frame 1.
use Rattle.std.specs.Prelude.{cond, List, [], ◌∷◌, ◌++◌, ℕ, ◌+◌, ◌*◌, ℤ, length, get_or}
use Rattle.lists.specs.Lists.{tabulate}
use Rattle.refusals.specs.Numbers.{is_accepted}
use Rattle.unit.specs.declared.Channel.{Channel}
use Rattle.unit.specs.declared.Unit.{Unit}
use Rattle.unit.specs.Cleared.{cleared_channel, cleared_unit, bands_of}
use Rattle.settings.specs.declared.Setting.{Setting}
use Rattle.orders.specs.Orders.{ordered}
use Rattle.frames.specs.Bytes.{sample_at, frame_size, frame_count}
use Rattle.frames.specs.Played.{block_words}
use Rattle.blocks.specs.Block.{block_played, block_output}

-- ---- "a list of calls, each a level order or a block of frames, refused ones included"

-- any side, band and level; any bytes, and any buffer for the output
pub data Call : Type 0 where
  order : (side band : ℕ) (level : Setting) → Call
  block : (input room : List ℕ) → Call

-- ---- the unit: what the contracts of `orders::order` and `blocks::play` promise

-- "It begins with a cleared unit with an accepted band set": what `loading::load` hands back, by `Demand3.begins` of
-- closeness/specs/Claim.antt
abbrev pub starting_unit : ℕ → List ℤ → Unit
starting_unit channels set = cleared_unit channels (bands_of set)

-- one channel of a unit
abbrev pub channel_in : ℕ → Unit → Channel
channel_in channel u = get_or u.channels channel cleared_channel

module _ (channels : ℕ) where
  -- "Each call gets the unit that the last one handed back": the unit that this call hands back
  abbrev pub unit_after : Unit → Call → Unit
  unit_after u (order side band level) = (ordered channels u side band level).unit
  unit_after u (block input room) = (block_played channels u input (length room)).unit

  -- the unit that the whole list hands back
  abbrev pub handed_back : Unit → List Call → Unit
  handed_back u [] = u
  handed_back u (call ∷ calls) = handed_back (unit_after u call) calls

  -- ---- the frames

  -- "Frames are numbered from 1 over the accepted blocks": what `read` gives for each frame of an accepted block, of the words that it
  -- plays and the output as it hands it back; orders and refused blocks have no frames
  abbrev pub frames_of : {A : Type 0} → Unit → Call → ((ℕ → List ℤ) → List ℕ → ℕ → A) → List A
  frames_of u (order side band level) read = []
  frames_of u (block input room) read =
      cond (is_accepted (block_played channels u input (length room)).verdict)
      (tabulate (frame_count channels input) (read (block_words channels input) (block_output channels u input room))) []

  module _ (channel : ℕ) where
    -- where the channel's sample stands in frame k of a block; here k counts from 0
    abbrev pub place_of : ℕ → ℕ
    place_of k = frame_size channels * k + 2 * channel

    -- "A side's sample is its signed 16-bit number for that frame in the output as the block handed it back"
    abbrev pub samples_of : Unit → Call → List ℤ
    samples_of u call = frames_of u call (λ (words : ℕ → List ℤ) (output : List ℕ) (k : ℕ). sample_at output (place_of k))

    abbrev pub samples : Unit → List Call → List ℤ
    samples u [] = []
    samples u (call ∷ calls) = samples_of u call ++ samples (unit_after u call) calls

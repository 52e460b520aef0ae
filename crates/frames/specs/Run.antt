-- What the routines within a block ask and give. Definitions only.
use Rattle.std.specs.Prelude.{◌≡◌, true, List, ◌++◌, ℕ, suc, ◌+◌, ◌*◌, ◌≤◌, ◌<◌, ℤ, length, drop, Float}
use Rattle.lists.specs.Lists.{Each}
use Rattle.rounding.specs.Rounding.{nearest}
use Rattle.floats.specs.Whole.{float, whole_of}
use Rattle.unit.specs.declared.Unit.{Unit}
use Rattle.unit.specs.Frame.{exact_mix, output}
use Rattle.unit.specs.Fit.{is_input, VolumeFit, BandFit, ChannelFit, Fit}
use Rattle.engine.specs.declared.FloatLevel.{FloatLevel}
use Rattle.engine.specs.Floats.{Carries, float_at, WholeFloats, float_level, level_in}
use Rattle.engine.specs.Frame.{total_size}
use Rattle.engine.specs.Layout.{side_count, set_floats, pair_floats, Side, first_side, second_side, sides_at, bands_at_side, channel_at_side, channels_in}
use Rattle.frames.specs.Bytes.{frame_size}
use Rattle.frames.specs.Played.{block_words, played_on, sound_on}
use Rattle.frames.specs.Column.{column_word, volume_played, channel_played, sample_heard, columns_stored}

-- how many frames are worked in one pass, and how many words of a pair they have
abbrev pub pass_frames : ℕ
pass_frames = 64

abbrev pub pass_words : ℕ
pass_words = side_count * pass_frames

-- samples of a pair in each of so many frames: they are among these bytes
abbrev pub Columns : ℕ → ℕ → ℕ → List ℕ → Type 0
Columns size at count bytes = (k : ℕ) → k < count → size * k + (at + 4) ≤ length bytes

-- ---- bytes to words

pub record ReadWordsAsks (words : List Float) (input : List ℕ) (size at count : ℕ) : Type 0 where
  pub words_size : length words ≡ pass_words
  pub few : count ≤ pass_frames
  pub has : Columns size at count input

pub record ReadWordsGives (input : List ℕ) (size at count : ℕ) (after : List Float) : Type 0 where
  pub words_size : length after ≡ pass_words
  pub words_are : (k : ℕ) → k < count → sides_at after (2 * k) ≡ record { first = float (column_word input size at k); second = float (column_word input size (at + 2) k) }

-- ---- words to T

-- the words of one side
abbrev pub first_words : List Float → ℕ → ℤ
first_words words k = whole_of (float_at words (2 * k))

abbrev pub second_words : List Float → ℕ → ℤ
second_words words k = whole_of (float_at words (2 * k + 1))

-- accepted bands and a fit pair
pub record PairFit (bands pair : List Float) : Type 0 where
  pub bands_size : length bands ≡ set_floats
  pub bands_whole : WholeFloats bands
  pub size : length pair ≡ pair_floats
  pub whole : WholeFloats pair
  pub first_bands : Each BandFit (bands_at_side bands first_side)
  pub second_bands : Each BandFit (bands_at_side bands second_side)
  pub first_fit : ChannelFit (channel_at_side pair first_side)
  pub second_fit : ChannelFit (channel_at_side pair second_side)

-- an input word as a float
pub record InputFloat (x : Float) : Type 0 where
  pub whole : x ≡ float (whole_of x)
  pub input : is_input (whole_of x) ≡ true

pub record MixWordsAsks (bands pair words : List Float) (count : ℕ) : Type 0 where
  pub pair_fit : PairFit bands pair
  pub words_size : length words ≡ pass_words
  pub few : count ≤ pass_frames
  pub first_inputs : (k : ℕ) → k < count → InputFloat (float_at words (2 * k))
  pub second_inputs : (k : ℕ) → k < count → InputFloat (float_at words (2 * k + 1))

-- one side: the channel after the frames, and T of each
pub record SideMixed (bands pair : List Float) (e : Side) (xs : ℕ → ℤ) (count : ℕ) (after : List Float) (totals : ℕ → Float) : Type 0 where
  pub channel : channel_at_side after e ≡ channel_played (bands_at_side bands e) xs (channel_at_side pair e) count
  pub totals_are : (k : ℕ) → k < count → totals k ≡ float (exact_mix (channel_played (bands_at_side bands e) xs (channel_at_side pair e) (suc k)))

pub record MixWordsGives (bands pair words : List Float) (count : ℕ) (after totals : List Float) : Type 0 where
  pub size : length after ≡ pair_floats
  pub whole : WholeFloats after
  pub words_size : length totals ≡ pass_words
  pub first : SideMixed bands pair first_side (first_words words) count after (λ k. float_at totals (2 * k))
  pub second : SideMixed bands pair second_side (second_words words) count after (λ k. float_at totals (2 * k + 1))

-- ---- T to bytes

-- a volume that the sheet can carry
pub record VolumeFloat (volume : FloatLevel) : Type 0 where
  pub whole : volume ≡ float_level (level_in volume)
  pub fit : VolumeFit (level_in volume)

pub record PutSoundsAsks (totals : List Float) (volume : FloatLevel) (room : List ℕ) (size at count : ℕ) : Type 0 where
  pub words_size : length totals ≡ pass_words
  pub few : count ≤ pass_frames
  pub volume_fit : VolumeFloat volume
  pub first_totals : (k : ℕ) → k < count → Carries (float_at totals (2 * k)) total_size
  pub second_totals : (k : ℕ) → k < count → Carries (float_at totals (2 * k + 1)) total_size
  pub has : Columns size at count room

-- what is heard in frame k of this T
abbrev pub total_heard : FloatLevel → (ℕ → ℤ) → ℕ → ℤ
total_heard volume totals k = output (volume_played (level_in volume) (suc k)).present (nearest (totals k) 23)

pub record PutSoundsGives (totals : List Float) (volume : FloatLevel) (room : List ℕ) (size at count : ℕ) (volume' : FloatLevel) (filled : List ℕ) : Type 0 where
  pub volume_is : volume' ≡ float_level (volume_played (level_in volume) count)
  pub bytes : filled ≡ columns_stored size at (total_heard volume (first_words totals)) (total_heard volume (second_words totals)) room count

-- ---- so many frames of a pair, whose first sample stands at `at` in each

pub record PairFramesAsks (bands pair : List Float) (volume : FloatLevel) (size at count : ℕ) (input room : List ℕ) : Type 0 where
  pub pair_fit : PairFit bands pair
  pub volume_fit : VolumeFloat volume
  pub input_has : Columns size at count input
  pub room_has : Columns size at count room

pub record PairFramesGives (bands pair : List Float) (volume : FloatLevel) (size at count : ℕ) (input room : List ℕ) (volume' : FloatLevel) (after : List Float) (filled : List ℕ) : Type 0 where
  pub volume_is : volume' ≡ float_level (volume_played (level_in volume) count)
  pub size_is : length after ≡ pair_floats
  pub whole : WholeFloats after
  pub first : channel_at_side after first_side ≡ channel_played (bands_at_side bands first_side) (column_word input size at) (channel_at_side pair first_side) count
  pub second : channel_at_side after second_side ≡ channel_played (bands_at_side bands second_side) (column_word input size (at + 2)) (channel_at_side pair second_side) count
  pub bytes : filled ≡ columns_stored size at (sample_heard (level_in volume) (bands_at_side bands first_side) (column_word input size at) (channel_at_side pair first_side)) (sample_heard (level_in volume) (bands_at_side bands second_side) (column_word input size (at + 2)) (channel_at_side pair second_side)) room count

-- ---- so many frames of all pairs

-- the unit of these floats
abbrev pub unit_in : FloatLevel → List Float → ℕ → List Float → Unit
unit_in volume bands pairs sides = record { volume = level_in volume; bands = bands_at_side bands first_side; channels = channels_in pairs sides }

-- what playing so many frames asks: a fit unit, and bytes enough
pub record FramesAsks (bands sides : List Float) (pairs : ℕ) (volume : FloatLevel) (count : ℕ) (input room : List ℕ) : Type 0 where
  pub some : 0 < pairs
  pub bands_size : length bands ≡ set_floats
  pub bands_whole : WholeFloats bands
  pub bands_same : bands_at_side bands second_side ≡ bands_at_side bands first_side
  pub size : length sides ≡ pair_floats * pairs
  pub whole : WholeFloats sides
  pub volume_whole : volume ≡ float_level (level_in volume)
  pub fit : Fit (unit_in volume bands pairs sides)
  pub input_has : frame_size (side_count * pairs) * count ≤ length input
  pub room_has : frame_size (side_count * pairs) * count ≤ length room

-- what it gives: the floats of the unit after them, and their sound, with the bytes beyond as they were
pub record FramesGives (bands sides : List Float) (pairs : ℕ) (volume : FloatLevel) (count : ℕ) (input room : List ℕ) (volume' : FloatLevel) (sides' : List Float) (filled : List ℕ) : Type 0 where
  pub volume_whole : volume' ≡ float_level (level_in volume')
  pub size : length sides' ≡ pair_floats * pairs
  pub whole : WholeFloats sides'
  pub unit : unit_in volume' bands pairs sides' ≡ played_on (block_words (side_count * pairs) input) (unit_in volume bands pairs sides) count
  pub bytes : filled ≡ sound_on (block_words (side_count * pairs) input) (unit_in volume bands pairs sides) count ++ drop (frame_size (side_count * pairs) * count) room

-- Bands, channels and levels as the engine's floats, and back: what each routine asks and gives. Definitions only.
use Rattle.std.specs.Prelude.{◌≡◌, List, ℕ, zero, suc, ◌+◌, ◌*◌, ◌≤◌, ◌<◌, ℤ, nat_abs, length, Float}
use Rattle.lists.specs.Lists.{Each}
use Rattle.words.specs.Words.{word_size}
use Rattle.bands.specs.Bands.{band_count}
use Rattle.bands.specs.declared.Band.{Band}
use Rattle.floats.specs.Whole.{float}
use Rattle.levels.specs.declared.Level.{Level}
use Rattle.unit.specs.declared.Channel.{Channel}
use Rattle.unit.specs.declared.BandSection.{BandSection}
use Rattle.unit.specs.Fit.{SectionFit, ChannelFit}
use Rattle.engine.specs.declared.FloatSection.{FloatSection}
use Rattle.engine.specs.declared.Sides.{Sides}
use Rattle.engine.specs.Floats.{Carries, float_at, WholeFloats}
use Rattle.engine.specs.Layout.{side_count, section_floats, set_floats, pair_floats, Side, first_side, second_side, put_sides, bands_at_side, channel_at_side}
use Rattle.engine.specs.Frame.{LevelCarries}

-- ---- to floats

-- the floats stand for the bands, on both sides
pub record BandFloatsGives (bands : List Band) (l : List Float) : Type 0 where
  pub size : length l ≡ set_floats
  pub whole : WholeFloats l
  pub first : bands_at_side l first_side ≡ bands
  pub second : bands_at_side l second_side ≡ bands

pub record PairFloatsAsks (a b : Channel) : Type 0 where
  pub first_fit : ChannelFit a
  pub second_fit : ChannelFit b

-- the floats stand for these channels, one on each side
pub record PairFloatsGives (a b : Channel) (l : List Float) : Type 0 where
  pub size : length l ≡ pair_floats
  pub whole : WholeFloats l
  pub first : channel_at_side l first_side ≡ a
  pub second : channel_at_side l second_side ≡ b

-- what a level asks: both numbers are at most 2^23 in size
pub record LevelFloatsAsks (level : Level) : Type 0 where
  pub present_size : nat_abs level.present ≤ word_size
  pub target_size : nat_abs level.target ≤ word_size

-- a number of each side, as floats
abbrev pub float_sides : ℤ → ℤ → Sides Float
float_sides first second = record { first = float first; second = float second }

-- the floats with three numbers of each side replaced, from place at on
unfoldable pub put_three : List Float → ℕ → Sides Float → Sides Float → Sides Float → List Float
put_three l at a b c = put_sides (put_sides (put_sides l at a) (at + 2) b) (at + 4) c

pub record PutSectionsAsks (l : List Float) (a b : List BandSection) : Type 0 where
  pub size : length l ≡ pair_floats
  pub whole : WholeFloats l
  pub first_fit : Each SectionFit a
  pub second_fit : Each SectionFit b

-- the floats after all sections are stored: those behind them are as before
pub record PutSectionsGives (l : List Float) (a b : List BandSection) (after : List Float) : Type 0 where
  pub size : length after ≡ pair_floats
  pub whole : WholeFloats after
  pub behind : (j : ℕ) → section_floats * band_count ≤ j → float_at after j ≡ float_at l j
  pub first : (channel_at_side after first_side).sections ≡ a
  pub second : (channel_at_side after second_side).sections ≡ b

-- ---- from floats

-- side 0 or 1 of a pair
abbrev pub pair_side : ℕ → Side
pair_side zero = first_side
pair_side (suc n) = second_side

-- what a section asks: each float carries a number of at most 2^23 in size
pub record SectionOfAsks (section : FloatSection) : Type 0 where
  pub y1_carries : Carries section.y1 word_size
  pub y2_carries : Carries section.y2 word_size
  pub gain_carries : LevelCarries section.gain
  pub remainder_carries : Carries section.remainder word_size

-- the floats of a pair with a fit channel on that side
pub record ChannelOfAsks (l : List Float) (side : ℕ) : Type 0 where
  pub below : side < side_count
  pub size : length l ≡ pair_floats
  pub whole : WholeFloats l
  pub fit : ChannelFit (channel_at_side l (pair_side side))

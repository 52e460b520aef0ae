-- A volume and the two channels of a pair, stored as lent numbers. Definitions only.
use Rattle.std.specs.Prelude.{◌≡◌, List, [], ◌∷◌, ℤ, length, Float}
use Rattle.bands.specs.declared.Band.{Band}
use Rattle.unit.specs.declared.Unit.{Unit}
use Rattle.unit.specs.Fit.{ChannelFit}
use Rattle.engine.specs.declared.FloatLevel.{FloatLevel}
use Rattle.engine.specs.Floats.{WholeFloats, level_in}
use Rattle.engine.specs.Layout.{pair_floats, first_side, second_side, channel_at_side}
use Rattle.engine.specs.Frame.{LevelCarries}
use Rattle.numbers.specs.Layout.{unit_size}

-- the unit of these bands, with the volume and the channels that the floats stand for
abbrev pub unit_stored : List Band → FloatLevel → List Float → Unit
unit_stored bands volume pair =
    record { volume = level_in volume; bands = bands; channels = channel_at_side pair first_side ∷ channel_at_side pair second_side ∷ [] }

pub record StoreAsks (numbers : List ℤ) (volume : FloatLevel) (pair : List Float) : Type 0 where
  pub numbers_size : length numbers ≡ unit_size
  pub volume_carries : LevelCarries volume
  pub size : length pair ≡ pair_floats
  pub whole : WholeFloats pair
  pub first_fit : ChannelFit (channel_at_side pair first_side)
  pub second_fit : ChannelFit (channel_at_side pair second_side)

-- The shape of a unit, for any number of channels. Definitions only.
use Rattle.std.specs.Prelude.{◌≡◌, ℕ, length}
use Rattle.lists.specs.Lists.{Each}
use Rattle.bands.specs.Bands.{band_count}
use Rattle.unit.specs.declared.Channel.{Channel}
use Rattle.unit.specs.declared.Unit.{Unit}

-- "Each side works its ten sections"
abbrev pub TenSections : Channel → Type 0
TenSections c = length c.sections ≡ band_count

-- ten bands, and `count` channels of ten sections
pub record Shaped (count : ℕ) (u : Unit) : Type 0 where
  pub bands : length u.bands ≡ band_count
  pub channels : length u.channels ≡ count
  pub sections : Each TenSections u.channels

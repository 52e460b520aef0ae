-- The test of a section's remainder. Definitions only.
use Rattle.std.specs.Prelude.{Bool, ℤ}
use Rattle.rounding.specs.Rounding.{within}
use Rattle.unit.specs.declared.BandSection.{BandSection}

-- the remainder is in the range from low to high
abbrev pub remainder_within : ℤ → ℤ → BandSection → Bool
remainder_within low high s = within low high s.remainder

-- "A level order names a side (0 left, 1 right, 2 both), a band (0 to 9, or 10 for the volume, with side 2 only) and a level." Which are refused,
-- and the target that a level stands for. Definitions only, by docs/SPECIFICATION.md, Levels.
use Rattle.std.specs.Prelude.{Bool, cond, ◌&&◌, ◌||◌, ℕ, suc, eqb, leb, ltb, ℤ, pos, ◌-ℤ◌, ◌*ℤ◌}
use Rattle.words.specs.Words.{word_low}
use Rattle.refusals.specs.Numbers.{unless, Verdict, Accepted}
use Rattle.refusals.specs.declared.Refusal.TheVariants.{NoPlace, PositionOver, NotFinite, FactorRange}
use Rattle.bands.specs.Bands.{band_count}
use Rattle.floats.specs.Value.{is_finite, in_range, band_lowest, volume_lowest, factor_target}
use Rattle.settings.specs.declared.Setting.{Setting}
use Rattle.settings.specs.declared.Setting.TheVariants.{Position, Factor, Mute}

-- ---- the place that an order names

-- "2 both"
abbrev pub both_sides : ℕ
both_sides = 2

-- "10 for the volume"
abbrev pub volume_band : ℕ
volume_band = band_count

-- "a side (0 left, 1 right, 2 both), a band (0 to 9, or 10 for the volume, with side 2 only)": a side for each channel, and 2 for all
unfoldable pub is_place : ℕ → ℕ → ℕ → Bool
is_place channels side band = (leb side channels && ltb band band_count) || (eqb side both_sides && eqb band volume_band)

-- the side of one channel: "0 left, 1 right", and of any further channel the number behind its own, since 2 stands for all
abbrev pub side_of : ℕ → ℕ
side_of channel = cond (ltb channel both_sides) channel (suc channel)

-- the side names this channel
unfoldable pub names : ℕ → ℕ → Bool
names side channel = eqb side both_sides || eqb side (side_of channel)

-- ---- the level that an order asks for

-- "Position p (0 to 31)", and the one that a band's target is reckoned from
abbrev pub last_position : ℕ
last_position = 31

abbrev pub middle_position : ℕ
middle_position = 16

-- "558,681 from 16 up and (p - 16) × 104,857 below": what a position is worth to a band
abbrev pub band_step : ℕ → ℤ
band_step p = cond (leb middle_position p) (pos 558681) (pos 104857)

-- "Position p (0 to 31) sets a band's target to (p - 16) × 558,681 from 16 up and (p - 16) × 104,857 below"
unfoldable pub band_position : ℕ → ℤ
band_position p = (pos p -ℤ pos middle_position) *ℤ band_step p

-- "it sets the volume's to p × 270,600"
unfoldable pub volume_position : ℕ → ℤ
volume_position p = pos p *ℤ pos 270600

-- the target that a level gives to this band, or to the volume. "Mute sets a band's target to -8,388,608; it sets the volume's to 0"
unfoldable pub target_of : ℕ → Setting → ℤ
target_of band (Position p) = cond (eqb band volume_band) (volume_position p) (band_position p)
target_of band (Factor f) = factor_target f
target_of band Mute = cond (eqb band volume_band) (pos 0) word_low

-- ---- refusals

-- "-1 ≤ f < 1 for a band and 0 ≤ f < 1 for the volume": where the range begins, in the units of a factor
abbrev pub lowest : ℕ → ℤ
lowest band = cond (eqb band volume_band) volume_lowest band_lowest

-- "2 position over 31; 3 factor not finite; 4 factor outside its range"
unfoldable pub level_verdict : ℕ → Setting → Verdict
level_verdict band (Position p) = unless (leb p last_position) PositionOver Accepted
level_verdict band (Factor f) = unless (is_finite f) NotFinite (unless (in_range (lowest band) f) FactorRange Accepted)
level_verdict band Mute = Accepted

-- "1 no such side and band", then its level: what an order is refused for, whatever the unit
abbrev pub order_arguments : ℕ → ℕ → ℕ → Setting → Verdict
order_arguments channels side band setting = unless (is_place channels side band) NoPlace (level_verdict band setting)

-- What a level order sets, and its answer, for any number of channels. Definitions only, by docs/SPECIFICATION.md, Levels.
use Rattle.std.specs.Prelude.{cond, ℕ, eqb, ℤ}
use Rattle.lists.specs.Lists.{changed}
use Rattle.refusals.specs.Numbers.{unless, is_accepted, Verdict}
use Rattle.refusals.specs.declared.Refusal.TheVariants.{Unfit}
use Rattle.levels.specs.Levels.{aimed}
use Rattle.unit.specs.Answered.{Answered, answered}
use Rattle.unit.specs.Fit.{unit_fits}
use Rattle.unit.specs.declared.BandSection.{BandSection}
use Rattle.unit.specs.declared.Channel.{Channel}
use Rattle.unit.specs.declared.Unit.{Unit}
use Rattle.settings.specs.declared.Setting.{Setting}
use Rattle.settings.specs.Settings.{volume_band, names, target_of, order_arguments}

-- "Orders and blocks test the unit ahead of all else: an unfit one is 14"
unfoldable pub order_verdict : ℕ → Unit → ℕ → ℕ → Setting → Verdict
order_verdict channels u side band setting = unless (unit_fits u) Unfit (order_arguments channels side band setting)

-- ---- what an order sets: nothing but the target of each level that it names

abbrev pub aimed_section : ℤ → BandSection → BandSection
aimed_section target s = record { y1 = s.y1; y2 = s.y2; gain = aimed target s.gain; remainder = s.remainder }

abbrev pub aimed_channel : ℕ → ℤ → Channel → Channel
aimed_channel band target c =
    record { x1 = c.x1; x2 = c.x2; flag = c.flag; sections = changed (eqb band) (aimed_section target) c.sections }

-- the volume's target
abbrev pub aimed_volume : ℤ → Unit → Unit
aimed_volume target u = record { volume = aimed target u.volume; bands = u.bands; channels = u.channels }

-- the targets of a band, on the channels that the side names
abbrev pub aimed_band : ℕ → ℕ → ℤ → Unit → Unit
aimed_band side band target u =
    record { volume = u.volume; bands = u.bands; channels = changed (names side) (aimed_channel band target) u.channels }

unfoldable pub aimed_unit : ℕ → ℕ → ℤ → Unit → Unit
aimed_unit side band target u = cond (eqb band volume_band) (aimed_volume target u) (aimed_band side band target u)

-- the answer: accepted, the unit with the named targets set; refused, "the unit comes back unchanged"
unfoldable pub ordered : ℕ → Unit → ℕ → ℕ → Setting → Answered
ordered channels u side band setting =
    answered (order_verdict channels u side band setting)
    (cond (is_accepted (order_verdict channels u side band setting)) (aimed_unit side band (target_of band setting) u) u)

-- `lent_orders::aim` meets its contract: the volume's target is stored, or the band's in each channel that the side names.
use mathlib.Core.Path.{ap, ◌∙◌}
use lib.IntN.{ℤ}
use lib.ListN.{set}
use mir.Syntax.{w32}
use mir.Facts.{to_z-of_z}
use Rattle.unit.specs.Sizes.{channel_count}
use Rattle.settings.proofs.Laws.{place-below}
use Rattle.lent_orders.specs.Places.{volume_target, named_below}
use Rattle.lent_orders.proofs.Aimed.{numbers_named, numbers_volume}
use Rattle.lent_orders.proofs.aim.Goals as goal

pub returns-then-band-eq-VOLUME_BAND : goal.returns-then-band-eq-VOLUME_BAND
returns-then-band-eq-VOLUME_BAND c =
    ap (set c.args.numbers.now volume_target) (to_z-of_z {w = w32} c.ranges.target)
    ∙ numbers_volume c.args.side c.args.band c.args.target c.args.numbers.now c.told-numbers c.if-band-eq-VOLUME_BAND.true

pub aim_band-requires : goal.aim_band-requires
aim_band-requires c = place-below _ _ _ c.requires c.if-band-eq-VOLUME_BAND.false

pub returns-else-band-eq-VOLUME_BAND : goal.returns-else-band-eq-VOLUME_BAND
returns-else-band-eq-VOLUME_BAND c =
    c.aim_band.ensures
    ∙ ap (λ (t : ℤ). named_below c.args.side c.args.band t channel_count c.args.numbers.now) (to_z-of_z {w = w32} c.ranges.target)
    ∙ numbers_named c.args.side c.args.band c.args.target c.args.numbers.now c.told-numbers
    (place-below _ _ _ c.requires c.if-band-eq-VOLUME_BAND.false)

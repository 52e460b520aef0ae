-- `orders::aim_unit` meets its contract: a place that is not the volume's is one of the ten bands.
use Rattle.settings.proofs.Laws.{place-below}
use Rattle.orders.proofs.aim_unit.Goals as goal

pub aim_channels-requires : goal.aim_channels-requires
aim_channels-requires c = place-below _ _ _ c.requires c.if-band-eq-VOLUME_BAND.false

-- `writing::put_sides` meets its contract. The loop's invariant: laid at the place that is reached, the sides from side i on make the whole.
use mathlib.Core.Path.{refl}
use mathlib.Core.Bool.{true}
use native.Mathlib.Omega.{arith}
use lib.ListN.{get_or}
use Rattle.lists.proofs.Tabulate.{each_get_d}
use Rattle.unit.specs.Fit.{ChannelFit}
use Rattle.unit.specs.Shaped.{TenSections}
use Rattle.unit.proofs.PastEnd.{zero_channel}
use Rattle.forms.proofs.Texts.{onward_size, onward_next}
use Rattle.sheet.proofs.Sizes.{side_length}
use Rattle.writing.proofs.Typed.{channels_typed}
use Rattle.writing.proofs.put_sides.Goals as goal

pub put_side-next-requires : goal.put_side-next-requires
put_side-next-requires c = (
  omega (arith, c.loop-i.invariant.0, onward_size c.loop-i.invariant.1),
  each_get_d ChannelFit c.args.channels zero_channel c.requires.1 c.loop-i.i (omega arith),
)

pub loop-i-preserved : goal.loop-i-preserved
loop-i-preserved c = (
  omega (arith, c.put_side-next.ensures.1, c.loop-i.invariant.0),
  onward_next c.loop-i.invariant.1 0 zero_channel (omega arith) (omega arith) refl c.put_side-next.ensures.0 (omega (arith, c.put_side-next.ensures.1, side_length true (get_or c.args.letters c.loop-i.i 0) (get_or c.args.channels c.loop-i.i zero_channel) ten)),
)
  where
    ten : TenSections (get_or c.args.channels c.loop-i.i zero_channel)
    ten = each_get_d TenSections c.args.channels zero_channel (channels_typed c.args.channels _ c.well_formed.1.1.1.0) c.loop-i.i (omega arith)

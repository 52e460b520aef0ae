-- `numbers::put_channels` meets its contract: the right channel is stored behind the left.
use mathlib.Core.Path.{sym, subst}
use mathlib.Core.List.{List}
use native.Mathlib.Omega.{arith}
use lib.Dec.{lit≤}
use lib.IntN.{ℤ}
use Rattle.lists.proofs.Tabulate.{each_get_d}
use Rattle.lists.proofs.Joined.{joined-two}
use Rattle.unit.specs.Fit.{ChannelFit}
use Rattle.unit.proofs.PastEnd.{zero_channel}
use Rattle.numbers.specs.Layout.{unit_size, left_place, channel_numbers, PutGives}
use Rattle.numbers.proofs.Put.{put_then}
use Rattle.numbers.proofs.put_channels.Goals as goal

pub put_channel-requires : goal.put_channel-requires
put_channel-requires c = (
  lit≤ tt,
  each_get_d ChannelFit c.args.channels zero_channel c.requires 0 (omega arith),
)

pub put_channel-requires-2 : goal.put_channel-requires-2
put_channel-requires-2 c = (
  lit≤ tt,
  each_get_d ChannelFit c.args.channels zero_channel c.requires 1 (omega arith),
)

pub returns : goal.returns
returns c =
    subst (λ (l : List ℤ). PutGives c.args.out.now left_place l unit_size c.put_channel-2.new.out)
    (sym (joined-two channel_numbers c.args.channels zero_channel (omega arith)))
    (put_then c.put_channel.ensures c.put_channel-2.ensures)

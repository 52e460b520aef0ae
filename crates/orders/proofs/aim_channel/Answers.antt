-- `orders::aim_channel` meets its contract: a store at the band.
use mathlib.Core.Path.{sym}
use native.Mathlib.Omega.{arith}
use mir.Facts.{to_z-of_z}
use Rattle.lists.proofs.Changed.{changed-set}
use Rattle.unit.specs.Cleared.{cleared_band_section}
use Rattle.unit.specs.declared.Channel.{Channel}
use Rattle.orders.specs.Orders.{aimed_section}
use Rattle.orders.proofs.aim_channel.Goals as goal

pub returns : goal.returns
returns c =
    let channel : Channel = c.args.channel.now in
    let e = changed-set (aimed_section c.args.target) channel.sections cleared_band_section c.args.band (omega arith) in
    simp (to_z-of_z c.ranges.target) (λ i. record { x1 = channel.x1; x2 = channel.x2; flag = channel.flag; sections = sym e i })

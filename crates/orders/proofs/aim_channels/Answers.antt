-- `orders::aim_channels` meets its contract, channel by channel.
use mathlib.Core.Path.{◌≡◌, sym, ◌∙◌}
use mathlib.Core.Bool.{cond}
use Prim.Native.Nat.{◌+◌}
use native.Mathlib.Omega.{arith}
use lib.ListN.{set, get_or}
use mir.Syntax.{w64}
use mir.Val.{to_z, of_z}
use mir.Facts.{to_z-of_z}
use Rattle.lists.specs.Lists.{changed}
use Rattle.unit.specs.declared.Channel.{Channel}
use Rattle.unit.proofs.PastEnd.{zero_channel}
use Rattle.settings.specs.Settings.{names}
use Rattle.orders.specs.Orders.{aimed_channel}
use Rattle.orders.proofs.Front.{below, front_begin, front_next, front_done}
use Rattle.orders.proofs.aim_channels.Goals.{then-names, else-names}
use Rattle.orders.proofs.aim_channels.Goals as goal

pub loop-own-init : goal.loop-own-init
loop-own-init c = front_begin (names c.args.side) _ c.args.channels.now

pub loop-own-preserved : goal.loop-own-preserved
loop-own-preserved c =
    elim c.if-names.branch [
      | then-names w ↦ w.channels-is ∙ next w.aim_channel.new.channel (w.aim_channel.ensures ∙ simp (sym w.if-names.ensures))
      | else-names w ↦ w.channels-is ∙ next here (simp (sym w.if-names.ensures))
    ]
  where
    here : Channel
    here = get_or c.loop-own.channels c.loop-own.own zero_channel

    aimed : Channel → Channel
    aimed = aimed_channel c.args.band (to_z w64 (of_z w64 c.args.target))

    next : (a : Channel) → a ≡ cond (names c.args.side c.loop-own.own) (aimed here) here → set c.loop-own.channels c.loop-own.own a ≡ changed (below (names c.args.side) (c.loop-own.own + 1)) aimed c.args.channels.now
    next a e = front_next (names c.args.side) aimed c.args.channels.now c.loop-own.own zero_channel c.loop-own.channels (omega arith) c.loop-own.invariant a e

pub returns : goal.returns
returns c = simp (to_z-of_z c.ranges.target) at c.loop-own.invariant ∙ front_done (names c.args.side) _ c.args.channels.now c.loop-own.own (omega arith)

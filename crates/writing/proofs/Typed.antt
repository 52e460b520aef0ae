-- A unit by value has the shape, and channels by value have ten sections each: what the type of a parameter tells.
use mathlib.Core.List.{List, [], ◌∷◌}
use mir.Val.{Val}
use denote.Array.{Array, each}
use denote.Laws.{Is}
use denote.Shadow.{shadow}
use denote.Struct.Declared.{row}
use Rattle.lists.specs.Lists.{Each}
use Rattle.unit.specs.declared.Channel.{Channel}
use Rattle.unit.specs.declared.Unit.{Unit}
use Rattle.unit.specs.Sizes.{channel_count}
use Rattle.unit.specs.Shaped.{TenSections, Shaped}
use Rattle.unit.specs.contracts.Channel as channel
use Rattle.unit.specs.contracts.Unit as unit

-- a channel
channel_typed : (c : Channel) (vs : List Val) → Is (row channel.the_type) c vs → TenSections c
channel_typed c vs h = h.1.1.1.1.1.0.1.0.1

each_typed : (cs : List Channel) (vs : List Val) → shadow (each Channel (row channel.the_type).own_val cs vs) → Each TenSections cs
each_typed [] vs h = tt
each_typed (c ∷ cs) [] h = absurd h
each_typed (c ∷ cs) (v ∷ vs) h = (channel_typed c (v ∷ []) h.0, each_typed cs vs h.1)

-- channels
pub channels_typed : (cs : List Channel) (vs : List Val) → Is (Array (row channel.the_type) channel_count) cs vs → Each TenSections cs
channels_typed cs vs h = each_typed cs h.0 h.1.1

-- a unit
pub unit_typed : (u : Unit) (vs : List Val) → Is (row unit.the_type) u vs → Shaped channel_count u
unit_typed u vs h =
    record {
      bands = h.1.1.1.0.1.0.1;
      channels = h.1.1.1.1.0.1.0.1;
      sections = each_typed u.channels h.1.1.1.1.0.0 h.1.1.1.1.0.1.1;
    }

-- `numbers::put_channel` meets its contract: its own numbers, and then the sections.
use mathlib.Core.Path.{refl, ap}
use native.Mathlib.Omega.{arith}
use lib.ListN.{length}
use Rattle.numbers.proofs.Put.{put_then, put_as}
use Rattle.numbers.proofs.put_channel.Goals as goal

pub returns : goal.returns
returns c =
    put_as (put_then (put_as c.put_row.ensures c.head_row.ensures (omega (arith, ap length c.head_row.ensures))) c.put_sections.ensures) refl (omega arith)

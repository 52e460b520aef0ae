-- `packing::put_three` meets its contract: three stores of two neighbours.
use mathlib.Core.Path.{ap, ◌∙◌}
use mathlib.Core.List.{List}
use Prim.Native.Nat.{◌+◌}
use lib.Ieee.{Float}
use Rattle.engine.specs.Layout.{put_sides}
use Rattle.packing.specs.Packing.{put_three}
use Rattle.packing.proofs.put_three.Goals as goal

pub returns : goal.returns
unfolding put_three
returns c =
    c.put_sides-3.ensures
    ∙ ap (λ (l : List Float). put_sides l (c.args.at + 4) c.args.c)
    (c.put_sides-2.ensures
    ∙ ap (λ (l : List Float). put_sides l (c.args.at + 2) c.args.b) c.put_sides.ensures)

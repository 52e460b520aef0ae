-- `lent_packing::put_runs` meets its contract. The loop's invariant: k numbers of each side are stored.
use mathlib.Core.Path.{ap, ◌∙◌}
use Prim.Native.Nat.{ℕ, ◌+◌, ◌^◌}
use native.Mathlib.Nat.{le_trans}
use native.Mathlib.Omega.{arith}
use lib.Dec.{lit≤}
use lib.IntN.{ℤ}
use lib.Signed.{nat_abs-le}
use mir.Syntax.{w32}
use Rattle.integers.proofs.Machine.{reads_back}
use Rattle.floats.specs.Whole.{float}
use Rattle.lent_packing.specs.Runs.{number_at}
use Rattle.lent_packing.proofs.Neighbours.{put_more}
use Rattle.lent_packing.proofs.put_runs.Goals as goal

pub loop-k-preserved : goal.loop-k-preserved
loop-k-preserved c =
    put_more c.args.runs.at c.args.runs.first c.args.runs.second c.args.floats.now c.args.numbers.now k c.loop-k.floats (omega arith) c.loop-k.invariant _ _
    (c.from.ensures ∙ ap float (reads_back w32 y (omega arith)))
    (c.from-in-loop-k.ensures ∙ ap float (reads_back w32 z (omega arith)))
    (le_trans (nat_abs-le y {H = 2 ^ 31} (omega arith)) (lit≤ tt))
    (le_trans (nat_abs-le z {H = 2 ^ 31} (omega arith)) (lit≤ tt))
  where
    k : ℕ
    k = c.loop-k.k

    y : ℤ
    y = number_at c.args.numbers.now (c.args.runs.first + k)

    z : ℤ
    z = number_at c.args.numbers.now (c.args.runs.second + k)

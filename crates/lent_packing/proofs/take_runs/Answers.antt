-- `lent_packing::take_runs` meets its contract. The loop's invariant: k numbers of each side are stored.
use mathlib.Core.Path.{◌∙◌}
use native.Mathlib.Omega.{arith}
use mir.Syntax.{w32}
use Rattle.integers.proofs.Machine.{reads_back}
use Rattle.lent_packing.proofs.Neighbours.{take_more}
use Rattle.lent_packing.proofs.take_runs.Goals as goal

pub loop-k-preserved : goal.loop-k-preserved
loop-k-preserved c =
    take_more c.args.runs.at c.args.runs.first c.args.runs.second c.args.floats.now c.args.numbers.now c.loop-k.k c.loop-k.numbers (omega arith) (omega arith) c.loop-k.invariant _ _
    (reads_back w32 c.whole_of.result (omega arith) ∙ c.whole_of.ensures)
    (reads_back w32 c.whole_of-in-loop-k.result (omega arith) ∙ c.whole_of-in-loop-k.ensures)

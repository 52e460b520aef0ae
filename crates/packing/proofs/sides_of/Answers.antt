-- `packing::sides_of` meets its contract.
use mathlib.Core.Path.{ap, ◌∙◌}
use native.Mathlib.Omega.{arith}
use mir.Syntax.{w64}
use Rattle.integers.proofs.Machine.{reads_back}
use Rattle.floats.specs.Whole.{float}
use Rattle.packing.proofs.sides_of.Goals as goal

pub returns : goal.returns
returns c =
    λ i.
    record {
      first = (c.float_of.ensures ∙ ap float (reads_back w64 c.args.first (omega arith))) i;
      second = (c.float_of-2.ensures ∙ ap float (reads_back w64 c.args.second (omega arith))) i;
    }

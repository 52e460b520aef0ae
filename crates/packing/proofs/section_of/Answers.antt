-- `packing::section_of` meets its contract.
use mathlib.Core.Path.{◌∙◌}
use native.Mathlib.Omega.{arith}
use mir.Syntax.{w64}
use Rattle.integers.proofs.Machine.{reads_back}
use Rattle.packing.proofs.section_of.Goals as goal

pub returns : goal.returns
returns c =
    λ i.
    record {
      y1 = (reads_back w64 c.whole_of.result (omega arith) ∙ c.whole_of.ensures) i;
      y2 = (reads_back w64 c.whole_of-2.result (omega arith) ∙ c.whole_of-2.ensures) i;
      gain = c.level_of.ensures i;
      remainder = (reads_back w64 c.whole_of-3.result (omega arith) ∙ c.whole_of-3.ensures) i;
    }

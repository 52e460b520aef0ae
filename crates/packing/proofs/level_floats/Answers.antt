-- `packing::level_floats` meets its contract.
use mathlib.Core.Path.{ap, ◌∙◌}
use native.Mathlib.Omega.{arith}
use mir.Syntax.{w64}
use Rattle.integers.proofs.Machine.{reads_back}
use Rattle.levels.specs.declared.Level.{Level}
use Rattle.floats.specs.Whole.{float}
use Rattle.packing.proofs.level_floats.Goals as goal

pub returns : goal.returns
returns c =
    λ i.
    record {
      present = (c.float_of.ensures ∙ ap float (reads_back w64 level.present (omega arith))) i;
      target = (c.float_of-2.ensures ∙ ap float (reads_back w64 level.target (omega arith))) i;
    }
  where
    level : Level
    level = c.args.level

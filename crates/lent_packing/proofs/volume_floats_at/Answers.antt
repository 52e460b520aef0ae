-- `lent_packing::volume_floats_at` meets its contract: the first two numbers, which an f64 holds.
use mathlib.Core.Path.{ap, ◌∙◌}
use native.Mathlib.Omega.{arith}
use lib.IntN.{ℤ, pos}
use lib.ListN.{get_or}
use mir.Syntax.{w32}
use Rattle.integers.proofs.Machine.{reads_back}
use Rattle.floats.specs.Whole.{float}
use Rattle.numbers.specs.Layout.{unit_of}
use Rattle.lent_packing.proofs.volume_floats_at.Goals as goal

pub returns : goal.returns
unfolding unit_of
returns c =
    λ i.
    record {
      present = (c.from.ensures ∙ ap float (reads_back w32 present (omega arith))) i;
      target = (c.from-2.ensures ∙ ap float (reads_back w32 target (omega arith))) i;
    }
  where
    present : ℤ
    present = get_or c.args.numbers.now 0 (pos 0)

    target : ℤ
    target = get_or c.args.numbers.now 1 (pos 0)

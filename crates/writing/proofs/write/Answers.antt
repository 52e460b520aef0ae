-- `writing::write` meets its contract: the part that is handed back is the front that was filled, which is within the buffer.
use native.Mathlib.Omega.{arith}
use lib.ListN.{length-take}
use Rattle.sheet.specs.Sheet.{side_letters}
use Rattle.writing.proofs.Filled.{part_filled}
use Rattle.writing.proofs.write.Goals as goal

pub slice_bounds-result-end : goal.slice_bounds-result-end
slice_bounds-result-end c =
    simp length-take (omega (arith, (part_filled side_letters c.args.unit c.args.out.now c.fill-count.ensures.0 c.fill-count.ensures.1 (omega arith)).0))

-- `numbers::put_sections` meets its contract. The loop's invariant: the first b sections are stored.
use mathlib.Core.Path.{ap}
use Prim.Native.Nat.{◌+◌, ◌*◌}
use native.Mathlib.Omega.{arith}
use lib.ListN.{length}
use Rattle.unit.specs.Cleared.{cleared_band_section}
use Rattle.numbers.specs.Layout.{section_size, section_numbers}
use Rattle.numbers.proofs.Put.{put_entry}
use Rattle.numbers.proofs.put_sections.Goals as goal

pub loop-b-preserved : goal.loop-b-preserved
loop-b-preserved c =
    put_entry section_numbers c.args.sections cleared_band_section c.loop-b.b (omega arith) c.loop-b.invariant c.put_row.ensures c.section_row.ensures
    (c.args.start + section_size * (c.loop-b.b + 1)) (omega (arith, ap length c.section_row.ensures))

-- `unit::bands_of` meets its contract. The loop's invariant: the bands below b are the set's.
use mathlib.Core.Path.{refl}
use native.Mathlib.Omega.{arith}
use Rattle.lists.proofs.Loops.{tabulated_begin, tabulated_next, tabulated_done}
use Rattle.unit.proofs.bands_of.Goals as goal

pub returns : goal.returns
returns c = tabulated_done c.before.loop-b.invariant (omega arith)

pub loop-b-init : goal.loop-b-init
loop-b-init c =
    tabulated_begin refl

pub loop-b-preserved : goal.loop-b-preserved
loop-b-preserved c =
    tabulated_next c.before.before.loop-b.invariant (omega arith) c.band_at.ensures

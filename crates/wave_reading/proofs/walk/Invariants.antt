-- `wave_reading::walk` meets its contract: what the chunks from here on give is what those from the first on give. The measure is the count of
-- bytes ahead.
use mathlib.Core.Path.{◌≡◌}
use mathlib.Core.Bool.{false}
use Prim.Native.Nat.{◌≤◌, ◌-◌}
use lib.ListN.{length}
use Rattle.wave_reading.specs.Walk.{chunks}
use Rattle.wave_reading.proofs.walk.Given as goal

abbrev pub invariant-loop-at : goal.invariant-loop-at
invariant-loop-at l = (l.at ≤ length l.file) × (chunks (length l.file) l.file l.at l.seen ≡ chunks (length l.file) l.file 12 false)

abbrev pub decreases-loop-at : goal.decreases-loop-at
decreases-loop-at l = length l.file - l.at

-- `playing::play` meets its contract: all turns together are one block. The measure is the count of bytes that may still be read: a turn that goes
-- on brings a byte.
use mathlib.Core.Path.{◌≡◌}
use mathlib.Core.List.{List}
use Prim.Native.Nat.{ℕ, ◌<◌}
use lib.ListN.{length}
use Rattle.unit.specs.declared.Unit.{Unit}
use Rattle.unit.specs.Fit.{Fit}
use Rattle.stream.specs.Claim.{begun, Ready}
use Rattle.playing.specs.declared.Progress.{Progress}
use Rattle.playing.proofs.Turns.{Going}
use Rattle.playing.proofs.play.Given as goal

-- a stream goes on from another one: whatever block led to that one, all that was read so far is one block with it
abbrev pub On : Unit → Progress → List ℕ → Unit → Progress → List ℕ → Type 0
On u p input u' p' input' = (from : Unit) (first : List ℕ) (most : ℕ) → Fit from → Going from first most u p input → Going from first most u' p' input'

abbrev pub invariant-loop-stream : goal.invariant-loop-stream
invariant-loop-stream l =
    (65536 ≡ length l.input) × (65536 ≡ length l.output) × Ready (begun l.unit) × (l.stream.held < 4) × On l.initial.unit l.initial.stream l.initial.input l.unit l.stream l.input

abbrev pub decreases-loop-stream : goal.decreases-loop-stream
decreases-loop-stream l = l.stream.left

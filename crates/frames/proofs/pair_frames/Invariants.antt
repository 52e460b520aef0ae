-- `frames::pair_frames` meets its contract: passes one behind the other (proofs/Passing.antt).
use Prim.Native.Nat.{◌-◌}
use Rattle.frames.proofs.Passing.{Passing}
use Rattle.frames.proofs.pair_frames.Given as goal

abbrev pub invariant-loop-done : goal.invariant-loop-done
invariant-loop-done l = Passing l.bands l.initial.pair l.initial.level l.size l.at l.count l.input l.initial.output l.pair l.output l.words l.level l.done

abbrev pub decreases-loop-done : goal.decreases-loop-done
decreases-loop-done l = l.count - l.done

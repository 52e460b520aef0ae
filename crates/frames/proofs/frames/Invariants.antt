-- `frames::frames` meets its contract: pair after pair (proofs/Pairs.antt).
use Rattle.frames.proofs.Pairs.{Paired}
use Rattle.frames.proofs.frames.Given as goal

abbrev pub invariant-loop-p : goal.invariant-loop-p
invariant-loop-p l = Paired l.bands l.initial.sides l.pairs l.volume l.count l.input l.initial.output l.sides l.output l.level l.p

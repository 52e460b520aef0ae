-- `frames::mix_words` meets its contract: a frame of the engine for each (proofs/Mixing.antt).
use Rattle.frames.proofs.Mixing.{Mixing}
use Rattle.frames.proofs.mix_words.Given as goal

abbrev pub invariant-loop-k : goal.invariant-loop-k
invariant-loop-k l = Mixing l.bands l.initial.pair l.initial.words l.count l.pair l.words l.k

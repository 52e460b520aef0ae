-- `lent_packing::take_runs` meets its contract. The loop's invariant: k numbers of each side are stored.
use Rattle.lent_packing.specs.Runs.{TakeRunsGives}
use Rattle.lent_packing.proofs.take_runs.Given as goal

abbrev pub invariant-loop-k : goal.invariant-loop-k
invariant-loop-k l = TakeRunsGives l.fn.runs.at l.fn.runs.first l.fn.runs.second l.k l.initial.numbers l.floats l.numbers

-- `lent_packing::put_runs` meets its contract. The loop's invariant: k numbers of each side are stored.
use Rattle.lent_packing.specs.Runs.{PutRunsGives}
use Rattle.lent_packing.proofs.put_runs.Given as goal

abbrev pub invariant-loop-k : goal.invariant-loop-k
invariant-loop-k l = PutRunsGives l.fn.runs.at l.fn.runs.first l.fn.runs.second l.k l.initial.floats l.numbers l.floats

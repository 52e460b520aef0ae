-- `packing::put_sections` meets its contract. The loop's invariant: the sections below b are stored.
use Rattle.packing.proofs.Sections.{Filled}
use Rattle.packing.proofs.put_sections.Given as goal

abbrev pub invariant-loop-b : goal.invariant-loop-b
invariant-loop-b l = Filled l.initial.pair l.first l.second l.b l.pair

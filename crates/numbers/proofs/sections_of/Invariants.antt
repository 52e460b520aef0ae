-- `numbers::sections_of` meets its contract. The loop's invariant: the sections below b are those of the numbers.
use Rattle.lists.proofs.Loops.{Tabulated}
use Rattle.bands.specs.Bands.{band_count}
use Rattle.numbers.specs.Layout.{section_at}
use Rattle.numbers.proofs.sections_of.Given as goal

abbrev pub invariant-loop-b : goal.invariant-loop-b
invariant-loop-b l = Tabulated (section_at (l.numbers)) band_count l.sections l.b

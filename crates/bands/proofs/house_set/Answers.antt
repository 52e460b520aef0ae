-- `bands::house_set` meets its contract: the table is the rounded figures, which antt computes.
use mathlib.Core.Path.{refl}
use Rattle.bands.specs.House.{house_set}
use Rattle.bands.proofs.house_set.Goals as goal

pub returns : goal.returns
unfolding house_set
returns c = refl

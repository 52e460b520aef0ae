-- `floats::nearest_whole` meets its contract: it is the sum and the difference of `shift-nearest`.
use mathlib.Core.Path.{refl}
use lib.Ieee.{binary64, of_bits, fits}
use denote.Floats.{passes}
use Rattle.floats.proofs.Shift.{shift_nearest}
use Rattle.floats.proofs.nearest_whole.Goals as goal

pub returns : goal.returns
unfolding of_bits
returns c = shift_nearest binary64 50 refl c.args.x (passes (fits binary64 c.args.x) c.well_formed.0.1) c.requires.finite c.requires.small

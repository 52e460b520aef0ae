-- `preview::cleared` meets its contract: the coefficients as floats, and plus zeros.
use lib.Ieee.{of_bits, of_int}
use borrow.Author.Rules.{rules}
use Rattle.preview.proofs.cleared.Goals as goal

pub returns : goal.returns
unfolding of_bits of_int
returns c = search rules

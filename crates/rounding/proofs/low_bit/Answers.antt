-- `rounding::low_bit` meets its contract: it is what is left at shift 1.
use mathlib.Core.Path.{refl}
use Rattle.rounding.proofs.Rest.{multiple_need, rest_need, rest_reads}
use Rattle.rounding.proofs.low_bit.Goals as goal

pub overflow_mul-result : goal.overflow_mul-result
overflow_mul-result c = multiple_need 62 1 refl c.args.v c.ranges.v 2 refl

pub overflow_sub-result : goal.overflow_sub-result
overflow_sub-result c = rest_need 62 1 refl c.args.v c.ranges.v 2 refl

pub returns : goal.returns
returns c = rest_reads 62 1 refl c.args.v c.ranges.v 2 refl

-- `lending::order` meets its contract: the verdict as its number.
use mathlib.Core.Path.{ap, ◌∙◌}
use Rattle.refusals.specs.Numbers.{number_of}
use Rattle.lending.proofs.order.Goals as goal

pub returns : goal.returns
returns c =
    record { number_is = c.number.ensures ∙ ap number_of c.order-verdict.ensures.0; numbers_are = c.order-verdict.ensures.1 }

-- `engine::carried` meets its contract: what rounding took or zero, where the band feeds it back, else zero.
use mathlib.Core.Path.{sym, ap, ◌∙◌}
use mathlib.Core.Bool.{Bool}
use lib.Ieee.{of_bits, of_int}
use Rattle.floats.specs.Whole.{whole_of}
use Rattle.engine.specs.Frame.{carried_by}
use Rattle.engine.proofs.carried.Goals as goal

pub returns-then-feeds : goal.returns-then-feeds
unfolding of_bits of_int
returns-then-feeds c =
    c.unless_limited.ensures ∙ sym (ap (λ (t : Bool). carried_by t (whole_of c.args.rounded) c.args.taken) c.if-feeds.true)

pub returns-else-feeds : goal.returns-else-feeds
unfolding of_bits of_int
returns-else-feeds c = sym (ap (λ (t : Bool). carried_by t (whole_of c.args.rounded) c.args.taken) c.if-feeds.false)

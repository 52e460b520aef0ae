-- `engine::unless_limited` meets its contract: the rounded number is y just where it is a word.
use mathlib.Core.Path.{sym, ap}
use mathlib.Core.Bool.{Bool, cond, not}
use Rattle.engine.proofs.Carry.{same_word, other_word}
use Rattle.engine.proofs.unless_limited.Goals as goal

pub returns-then-rounded-y : goal.returns-then-rounded-y
returns-then-rounded-y c =
    sym (ap (λ (t : Bool). cond (not t) c.args.other c.args.kept) (same_word c.args.rounded c.args.y c.requires c.if-rounded-y.true))

pub returns-else-rounded-y : goal.returns-else-rounded-y
returns-else-rounded-y c =
    sym (ap (λ (t : Bool). cond (not t) c.args.other c.args.kept) (other_word c.args.rounded c.args.y c.requires c.if-rounded-y.false))

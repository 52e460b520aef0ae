-- `lent_orders::target_of` meets its contract: a word loses nothing in 32 bits.
use mathlib.Core.Path.{ap, ◌∙◌}
use Prim.Native.Nat.{◌≤◌}
use lib.IntN.{nat_abs}
use Rattle.words.specs.Words.{word_size, is_word}
use Rattle.words.proofs.Laws.{word_size_lem, narrow_need, narrow_reads}
use Rattle.settings.proofs.Laws.{level_word}
use Rattle.lent_orders.proofs.target_of.Goals.{After-target_of}
use Rattle.lent_orders.proofs.target_of.Goals as goal

target-size : (c : After-target_of) → nat_abs c.target_of.result ≤ word_size
target-size c = word_size_lem c.target_of.result (ap is_word c.target_of.ensures ∙ level_word c.args.band c.args.setting c.requires)

pub overflow_cast-result : goal.overflow_cast-result
overflow_cast-result c = narrow_need c.target_of.result (target-size c)

pub returns : goal.returns
returns c = narrow_reads c.target_of.result (target-size c) ∙ c.target_of.ensures

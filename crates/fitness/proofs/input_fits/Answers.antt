-- `fitness::input_fits` meets its contract: a word fits 32 bits, in which it is tested.
use mathlib.Core.Path.{sym, ap, ◌∙◌}
use Prim.Native.Nat.{◌≤◌}
use lib.IntN.{nat_abs}
use mir.Facts.{to_z-of_z}
use Rattle.words.specs.Words.{word_size, is_word}
use Rattle.words.proofs.Laws.{word_size_lem, narrow_need, narrow_reads}
use Rattle.unit.specs.Fit.{is_input}
use Rattle.fitness.proofs.input_fits.Goals.{Then-is_word}
use Rattle.fitness.proofs.input_fits.Goals as goal

word-size : (c : Then-is_word) → nat_abs c.args.v ≤ word_size
word-size c = word_size_lem c.args.v (sym (ap is_word (to_z-of_z c.ranges.v)) ∙ sym c.if-is_word.ensures)

pub overflow_cast-v : goal.overflow_cast-v
overflow_cast-v c = narrow_need c.args.v (word-size c)

pub returns-then-is_word : goal.returns-then-is_word
returns-then-is_word c = c.is_input.ensures ∙ ap is_input (narrow_reads c.args.v (word-size c.before))

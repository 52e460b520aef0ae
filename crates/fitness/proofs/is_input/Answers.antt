-- `fitness::is_input` meets its contract: of a word, nothing is left at shift 8.
use mathlib.Core.Path.{refl, ap, ◌∙◌}
use mathlib.Core.Bool.{Bool, ◌&&◌}
use lib.IntN.{ℤ, pos}
use lib.Signed.{le_z}
use mir.Facts.{to_z-of_z}
use Rattle.rounding.specs.Rounding.{rest}
use Rattle.rounding.proofs.Rest.{rest_reads}
use Rattle.words.specs.Words.{is_word}
use Rattle.unit.specs.Fit.{is_input}
use Rattle.fitness.proofs.is_input.Goals as goal

pub returns-then-is_word : goal.returns-then-is_word
unfolding is_input
returns-then-is_word c =
    ap (λ (z : ℤ). le_z z (pos 0)) (rest_reads 23 8 refl c.args.v c.ranges.v 256 refl)
    ∙ ap (λ (t : Bool). t && le_z (rest c.args.v 8) (pos 0)) (c.if-is_word.ensures ∙ ap is_word (to_z-of_z c.ranges.v))

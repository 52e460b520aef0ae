-- `preview::limit_word` meets its contract: the two tests choose what limiting does.
use mathlib.Core.Path.{◌≡◌, refl, sym, ap, ◌∙◌}
use mathlib.Core.Bool.{Bool, true, false, cond}
use lib.IntN.{ℤ}
use lib.Ieee.{Float, of_bits, of_int, lt}
use Rattle.rounding.specs.Rounding.{limit}
use Rattle.words.specs.Words.{word_low, word_high}
use Rattle.floats.specs.Whole.{float, whole_of}
use Rattle.preview.proofs.Results.{chosen}
use Rattle.preview.proofs.limit_word.Goals.{Start}
use Rattle.preview.proofs.limit_word.Goals as goal

module _ (s : Start) where
  abbrev z : ℤ
  z = whole_of s.args.rounded

  whole_is : float z ≡ s.args.rounded
  whole_is = sym s.requires.whole

  -- what the two tests choose
  test : (l h : Bool) → lt s.args.rounded (float word_low) ≡ l → lt (float word_high) s.args.rounded ≡ h → cond l word_low (cond h word_high z) ≡ limit word_low word_high z
  test l h e d = chosen z s.requires.small l h (ap (λ (x : Float). lt x (float word_low)) whole_is ∙ e) (ap (λ (x : Float). lt (float word_high) x) whole_is ∙ d)

pub returns-then-rounded : goal.returns-then-rounded
unfolding of_bits of_int
returns-then-rounded c = ap float (test (goal.at.returns-then-rounded c).Start true _ c.if-rounded.true refl)

pub returns-then-rounded-2 : goal.returns-then-rounded-2
unfolding of_bits of_int
returns-then-rounded-2 c = ap float (test (goal.at.returns-then-rounded-2 c).Start false true c.if-rounded.false c.if-rounded-2.true)

pub returns-else-rounded-2 : goal.returns-else-rounded-2
unfolding of_bits of_int
returns-else-rounded-2 c =
    let s = (goal.at.returns-else-rounded-2 c).Start in
    sym (whole_is s) ∙ ap float (test s false false c.if-rounded.false c.if-rounded-2.false)

-- `lending::load` meets its contract: whatever the set, the loaded unit is fit, so that its numbers can be stored.
use mathlib.Core.Path.{sym, ap, ◌∙◌, subst}
use Rattle.refusals.specs.Numbers.{number_of}
use Rattle.unit.specs.Fit.{Fit}
use Rattle.unit.specs.Answered.{Answered}
use Rattle.loading.proofs.Laws.{loaded_fit}
use Rattle.numbers.specs.Layout.{numbers_of}
use Rattle.lending.proofs.load.Goals as goal

pub numbers_of-requires : goal.numbers_of-requires
numbers_of-requires c =
    subst (λ (l : Answered). Fit l.unit) (sym c.load-verdict.ensures) (loaded_fit c.args.set.now)

pub returns : goal.returns
returns c = (
  c.number.ensures ∙ ap (λ (l : Answered). number_of l.verdict) c.load-verdict.ensures,
  c.numbers_of.ensures ∙ ap (λ (l : Answered). numbers_of l.unit) c.load-verdict.ensures,
)

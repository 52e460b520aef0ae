-- `play::finish` is safe: a sheet is saved, and said is, what was decided.
use mathlib.Core.Path.{sym, ap, ◌∙◌}
use Rattle.decisions.specs.declared.PassEnd.{PassEnd}
use Rattle.play.proofs.finish.Goals as goal

pub save-requires : goal.save-requires
save-requires c =
    record {
      fit = c.requires.gives.fit;
      is_saved = sym (ap (λ (e : PassEnd). e.is_saved) c.ending-ending.ensures) ∙ c.if-ending.true;
    }

pub answer_end-requires : goal.answer_end-requires
answer_end-requires c = ap (λ (e : PassEnd). e.verdict) c.ending-ending.ensures

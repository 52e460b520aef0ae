-- `waves::finish` is safe: a sheet is saved, and said is, what was decided.
use mathlib.Core.Path.{sym, ap, ◌∙◌}
use Rattle.std.specs.Prelude.{Result}
use Rattle.refusals.specs.declared.Refusal.{Refusal}
use Rattle.wave_reading.specs.declared.Located.{Located}
use Rattle.decisions.specs.declared.PassEnd.{PassEnd}
use Rattle.decisions.specs.Decisions.{wave_ending_of}
use Rattle.play.proofs.WaveData.{can_save}
use Rattle.play.proofs.waves.finish.Goals as goal

pub save-requires : goal.save-requires
save-requires c =
    can_save c.args.begun c.args.front.now c.args.place c.args.unit c.args.stream c.requires
    (sym (ap (λ (e : PassEnd). e.is_saved) c.wave_ending-ending.ensures) ∙ c.if-ending.true)

pub answer-requires : goal.answer-requires
answer-requires c =
    ap (λ (e : PassEnd). e.verdict) c.wave_ending-ending.ensures
    ∙ ap (λ (found : Result Located Refusal). (wave_ending_of c.args.stream.is_lost found c.args.stream.left).verdict) (sym c.requires.place_is)

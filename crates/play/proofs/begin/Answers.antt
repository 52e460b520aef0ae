-- `play::begin` is safe: a sheet is opened only where a pass is asked for, and for what is asked for.
use mathlib.Core.Path.{sym, ap, ap₂, ◌∙◌}
use mathlib.Core.Bool.{Bool, ◌||◌}
use Rattle.arguments.specs.Meaning.{request_of, is_plain}
use Rattle.play.proofs.begin.Goals as goal

pub open_sheet-requires : goal.open_sheet-requires
open_sheet-requires c =
    record { asked = ap (λ (b : Bool). b || is_plain (request_of c.args.count c.args.first.now)) (sym c.asks_wave-is_wave.ensures ∙ c.if-is_wave.true); kind = c.asks_wave-is_wave.ensures }

pub open_sheet-requires-then-is_plain : goal.open_sheet-requires-then-is_plain
open_sheet-requires-then-is_plain c =
    record {
      asked =
          ap₂ ◌||◌ (sym c.asks_wave-is_wave.ensures ∙ c.if-is_wave.false)
          (sym (ap is_plain c.requested-request.ensures) ∙ sym c.is_plain.ensures ∙ c.if-is_plain.true);
      kind = c.asks_wave-is_wave.ensures;
    }

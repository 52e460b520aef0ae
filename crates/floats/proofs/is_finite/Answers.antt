-- `floats::is_finite` meets its contract: a finite number, and nothing else, lies between the infinities.
use mathlib.Core.Path.{◌≡◌, refl, sym, ap, ◌∙◌}
use mathlib.Core.Bool.{Bool, true, false, ◌&&◌}
use lib.Ieee.{Float, nan, inf, fin, of_bits, neg, div, lt}
use Rattle.floats.specs.Value.{is_finite}
use Rattle.floats.proofs.is_finite.Goals as goal

between : (x : Float) → lt (inf true) x && lt x (inf false) ≡ is_finite x
unfolding lt
between nan = refl
between (inf true) = refl
between (inf false) = refl
between (fin s m e) = refl

pub returns-then-infinity-f : goal.returns-then-infinity-f
unfolding of_bits neg div
returns-then-infinity-f c = sym (ap (λ (b : Bool). b && lt c.args.f (inf false)) c.if-infinity-f.true) ∙ between c.args.f

pub returns-else-infinity-f : goal.returns-else-infinity-f
unfolding of_bits neg div
returns-else-infinity-f c = c.if-infinity-f.false ∙ sym (ap (λ (b : Bool). b && lt c.args.f (inf false)) c.if-infinity-f.false) ∙ between c.args.f

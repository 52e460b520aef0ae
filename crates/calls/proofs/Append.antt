-- The calls of a and then those of b: the unit after both, and their samples.
use mathlib.Core.Path.{◌≡◌, refl, sym, ap, ◌∙◌}
use mathlib.Core.List.{List, [], ◌∷◌, ◌++◌, append_assoc}
use Prim.Native.Nat.{ℕ}
use lib.IntN.{ℤ}
use Rattle.unit.specs.declared.Unit.{Unit}
use Rattle.calls.specs.Calls.{Call, unit_after, handed_back, samples_of, samples}

pub unit_append : (channels : ℕ) (u : Unit) (a b : List Call) → handed_back channels u (a ++ b) ≡ handed_back channels (handed_back channels u a) b
unit_append channels u [] b = refl
unit_append channels u (call ∷ a) b = unit_append channels (unit_after channels u call) a b

module _ (channels channel : ℕ) where
  pub samples_append : (u : Unit) (a b : List Call) → samples channels channel u (a ++ b) ≡ samples channels channel u a ++ samples channels channel (handed_back channels u a) b
  samples_append u [] b = refl
  samples_append u (call ∷ a) b =
      ap (λ (l : List ℤ). samples_of channels channel u call ++ l) (samples_append (unit_after channels u call) a b)
      ∙ sym (append_assoc (samples_of channels channel u call) (samples channels channel (unit_after channels u call) a) (samples channels channel (handed_back channels u (call ∷ a)) b))

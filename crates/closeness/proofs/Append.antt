-- The calls of a and then those of b: where a section limits.
use mathlib.Core.Path.{◌≡◌, refl, sym, ap, ◌∙◌}
use mathlib.Core.Bool.{Bool}
use mathlib.Core.List.{List, [], ◌∷◌, ◌++◌, append_assoc}
use Prim.Native.Nat.{ℕ}
use Rattle.unit.specs.declared.Unit.{Unit}
use Rattle.calls.specs.Calls.{Call, unit_after, handed_back}
use Rattle.closeness.specs.Claim.{limits_of, limits}

module _ (channels channel : ℕ) where
  pub limits_append : (u : Unit) (a b : List Call) → limits channels channel u (a ++ b) ≡ limits channels channel u a ++ limits channels channel (handed_back channels u a) b
  limits_append u [] b = refl
  limits_append u (call ∷ a) b =
      ap (λ (l : List Bool). limits_of channels channel u call ++ l) (limits_append (unit_after channels u call) a b)
      ∙ sym (append_assoc (limits_of channels channel u call) (limits channels channel (unit_after channels u call) a) (limits channels channel (handed_back channels u (call ∷ a)) b))

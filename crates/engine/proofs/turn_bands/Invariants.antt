-- `engine::turn_bands` meets its contract. The loop's invariant: the bands from `from` to below b have had their turns.
use mathlib.Core.Path.{◌≡◌, refl}
use mathlib.Core.List.{List}
use Prim.Native.Nat.{ℕ, zero, suc, ◌+◌, ◌≤◌}
use lib.ListN.{length}
use lib.Ieee.{Float}
use Rattle.engine.specs.declared.Sides.{Sides}
use Rattle.engine.specs.Frame.{Between, between, after_turns}
use Rattle.engine.proofs.Store.{section_length}
use Rattle.engine.proofs.turn_bands.Given as goal

module _ (bands : List Float) (d : Sides Float) (from : ℕ) (s : Between) where
  -- a turn leaves the number of floats
  pub length-after : (n : ℕ) → length (after_turns bands d from n s).pair ≡ length s.pair
  length-after zero = refl
  length-after (suc n) = simp section_length (length-after n)

  -- so many turns led to m and place b
  pub record Reached (to b : ℕ) (m : Between) : Type 0 where
    pub turns : ℕ
    pub most : from + turns ≤ to
    pub place : b ≡ from + turns
    pub is : m ≡ after_turns bands d from turns s

abbrev pub invariant-loop-b : goal.invariant-loop-b
invariant-loop-b l = Reached l.bands l.d l.from (between l.initial.pair l.initial.tallies) l.to l.b (between l.pair l.tallies)

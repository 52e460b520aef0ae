-- What a store of three numbers of each side changes, and what it leaves.
use mathlib.Core.Path.{◌≡◌, ◌∙◌}
use mathlib.Core.List.{List}
use Prim.Native.Nat.{ℕ, ◌+◌, ◌≤◌, ◌<◌}
use native.Mathlib.Omega.{arith}
use lib.ListN.{length}
use lib.Ieee.{Float}
use Rattle.engine.specs.declared.Sides.{Sides}
use Rattle.engine.specs.Floats.{float_at, WholeFloats}
use Rattle.engine.specs.Layout.{sides_at, put_sides}
use Rattle.engine.proofs.Store.{IsWhole, sides-length, sides_outside, sides_same, sides_whole}
use Rattle.engine.proofs.Read.{sides_other}
use Rattle.packing.specs.Packing.{put_three}

module _ (l : List Float) (at : ℕ) (a b c : Sides Float) where
  abbrev one : List Float
  one = put_sides l at a

  abbrev two : List Float
  two = put_sides one (at + 2) b

  pub three_length : length (put_three l at a b c) ≡ length l
  unfolding put_three
  three_length = sides-length two (at + 4) c ∙ sides-length one (at + 2) b ∙ sides-length l at a

  pub three_whole : WholeFloats l → IsWhole a.first × IsWhole a.second → IsWhole b.first × IsWhole b.second → IsWhole c.first × IsWhole c.second → WholeFloats (put_three l at a b c)
  unfolding put_three
  three_whole w x y z =
      sides_whole two (at + 4) c (sides_whole one (at + 2) b (sides_whole l at a w x.0 x.1) y.0 y.1) z.0 z.1

  pub three_outside : (j : ℕ) → (at ≤ j → j ≤ at + 5 → ⊥) → float_at (put_three l at a b c) j ≡ float_at l j
  unfolding put_three
  three_outside j away =
      sides_outside two (at + 4) c j (λ e. away (omega arith) (omega arith)) (λ e. away (omega arith) (omega arith))
      ∙ sides_outside one (at + 2) b j (λ e. away (omega arith) (omega arith)) (λ e. away (omega arith) (omega arith))
      ∙ sides_outside l at a j (λ e. away (omega arith) (omega arith)) (λ e. away (omega arith) (omega arith))

  module _ (room : at + 5 < length l) where
    pub three_first : sides_at (put_three l at a b c) at ≡ a
    unfolding put_three
    three_first =
        sides_other two (at + 4) c at (λ e. omega arith) (λ e. omega arith) (λ e. omega arith)
        ∙ sides_other one (at + 2) b at (λ e. omega arith) (λ e. omega arith) (λ e. omega arith)
        ∙ sides_same l at a (omega arith)

    pub three_second : sides_at (put_three l at a b c) (at + 2) ≡ b
    unfolding put_three
    three_second =
        sides_other two (at + 4) c (at + 2) (λ e. omega arith) (λ e. omega arith) (λ e. omega arith)
        ∙ sides_same one (at + 2) b (omega (arith, sides-length l at a))

    pub three_third : sides_at (put_three l at a b c) (at + 4) ≡ c
    unfolding put_three
    three_third = sides_same two (at + 4) c (omega (arith, sides-length l at a, sides-length one (at + 2) b))

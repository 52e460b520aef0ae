-- The words of a pass: a word of each side of a pair, frame after frame.
use mathlib.Core.Path.{◌≡◌, refl, sym, ◌∙◌, subst}
use mathlib.Core.Bool.{Bool, true, false}
use mathlib.Core.List.{List}
use Prim.Native.Nat.{ℕ, suc, ◌+◌, ◌*◌, ◌<◌}
use native.Mathlib.Omega.{arith}
use lib.Dec.{eqb}
use lib.ListN.{length}
use lib.Ieee.{Float}
use borrow.Author.Tests.{eqb-true, eqb-false}
use Rattle.engine.specs.declared.Sides.{Sides}
use Rattle.engine.specs.Layout.{sides_at, put_sides}
use Rattle.engine.proofs.Store.{sides_outside, sides_same}

module _ (l : List Float) (k : ℕ) (s : Sides Float) where
  -- another frame's words stay
  pub words_other : (j : ℕ) → (j ≡ k → ⊥) → sides_at (put_sides l (2 * k) s) (2 * j) ≡ sides_at l (2 * j)
  words_other j a =
      λ i.
      record {
        first = sides_outside l (2 * k) s (2 * j) (λ e. a (omega arith)) (λ e. omega arith) i;
        second = sides_outside l (2 * k) s (2 * j + 1) (λ e. omega arith) (λ e. a (omega arith)) i;
      }

  -- frame k's words are stored behind those of the frames before
  pub words_more : (f : ℕ → Sides Float) → 2 * k + 1 < length l → s ≡ f k → ((j : ℕ) → j < k → sides_at l (2 * j) ≡ f j) → (j : ℕ) → j < suc k → sides_at (put_sides l (2 * k) s) (2 * j) ≡ f j
  words_more f h e before j r = go (eqb j k) refl
    where
      go : (t : Bool) → eqb j k ≡ t → sides_at (put_sides l (2 * k) s) (2 * j) ≡ f j
      go true t = subst (λ (i : ℕ). sides_at (put_sides l (2 * k) s) (2 * i) ≡ f i) (sym (eqb-true j k t)) (sides_same l (2 * k) s h ∙ e)
      go false t = words_other j (eqb-false j k t) ∙ before j (omega (arith, r, eqb-false j k t))

-- Two runs of numbers and their floats, one number of each side more.
use mathlib.Core.Path.{◌≡◌, ap, ◌∙◌}
use mathlib.Core.List.{List}
use Prim.Native.Nat.{ℕ, ◌+◌, ◌*◌, ◌≤◌, ◌<◌}
use native.Mathlib.Omega.{arith}
use lib.IntN.{ℤ, pos, nat_abs}
use lib.ListN.{length, set, length-set}
use lib.Seq.{get_or-set_same, get_or-set_other}
use lib.Ieee.{Float, nan}
use borrow.Author.Count.{below_more}
use Rattle.floats.specs.Whole.{float, whole_of}
use Rattle.engine.specs.Floats.{largest, float_at}
use Rattle.engine.specs.Layout.{side_count}
use Rattle.engine.proofs.Carry.{whole_is}
use Rattle.engine.proofs.Store.{float_whole, set_whole}
use Rattle.numbers.specs.Layout.{unit_size}
use Rattle.lent_packing.specs.Runs.{number_at, PutRunsGives, TakeRunsGives}

module _ (at first second : ℕ) (l : List Float) (numbers : List ℤ) where
  -- ---- floats from numbers

  module _ (k : ℕ) (m : List Float) (room : at + side_count * k + 1 < length l) (f : PutRunsGives at first second k l numbers m) where
    abbrev y : ℤ
    y = number_at numbers (first + k)

    abbrev z : ℤ
    z = number_at numbers (second + k)

    abbrev to : ℕ
    to = at + side_count * k

    module _ (a b : Float) (a-is : a ≡ float y) (b-is : b ≡ float z) (y-exact : nat_abs y ≤ largest) (z-exact : nat_abs z ≤ largest) where
      abbrev floats_one : List Float
      floats_one = set m to a

      abbrev floats_after : List Float
      floats_after = set floats_one (to + 1) b

      other : (j : ℕ) → (j ≡ to → ⊥) → (j ≡ to + 1 → ⊥) → float_at floats_after j ≡ float_at m j
      other j n n' = get_or-set_other floats_one (to + 1) j b nan n' ∙ get_or-set_other m to j a nan n

      pub put_more : PutRunsGives at first second (k + 1) l numbers floats_after
      put_more =
          record {
            size = length-set floats_one (to + 1) b ∙ length-set m to a ∙ f.size;
            whole = set_whole floats_one (to + 1) b (set_whole m to a f.whole (float_whole a y a-is y-exact)) (float_whole b z b-is z-exact);
            firsts =
                below_more (λ (j : ℕ). whole_of (float_at floats_after (at + side_count * j)) ≡ number_at numbers (first + j)) k
                (λ j h. ap whole_of (other (at + side_count * j) (λ e. omega arith) (λ e. omega arith)) ∙ f.firsts j h)
                (whole_is (float_at floats_after to) y
                (get_or-set_other floats_one (to + 1) to b nan (λ e. omega arith) ∙ get_or-set_same m to a nan (omega (arith, f.size)) ∙ a-is) y-exact);
            seconds =
                below_more (λ (j : ℕ). whole_of (float_at floats_after (at + side_count * j + 1)) ≡ number_at numbers (second + j)) k
                (λ j h. ap whole_of (other (at + side_count * j + 1) (λ e. omega arith) (λ e. omega arith)) ∙ f.seconds j h)
                (whole_is (float_at floats_after (to + 1)) z
                (get_or-set_same floats_one (to + 1) b nan (omega (arith, f.size, length-set m to a)) ∙ b-is) z-exact);
            outside =
                λ j g.
                other j (λ e. g (omega arith) (omega arith)) (λ e. g (omega arith) (omega arith)) ∙ f.outside j (λ u v. g u (omega arith));
          }

  -- ---- numbers from floats

  module _ (k : ℕ) (m : List ℤ) (apart : first + k < second) (inside : second + k < unit_size) (f : TakeRunsGives at first second k numbers l m) where
    module _ (v w : ℤ) (v-is : v ≡ whole_of (float_at l (at + side_count * k))) (w-is : w ≡ whole_of (float_at l (at + side_count * k + 1))) where
      abbrev one : List ℤ
      one = set m (first + k) v

      abbrev after : List ℤ
      after = set one (second + k) w

      pub take_more : TakeRunsGives at first second (k + 1) numbers l after
      take_more =
          record {
            size = length-set one (second + k) w ∙ length-set m (first + k) v ∙ f.size;
            firsts =
                below_more (λ (j : ℕ). number_at after (first + j) ≡ whole_of (float_at l (at + side_count * j))) k
                (λ j h.
                get_or-set_other one (second + k) (first + j) w (pos 0) (λ e. omega arith)
                ∙ get_or-set_other m (first + k) (first + j) v (pos 0) (λ e. omega arith)
                ∙ f.firsts j h)
                (get_or-set_other one (second + k) (first + k) w (pos 0) (λ e. omega arith)
                ∙ get_or-set_same m (first + k) v (pos 0) (omega (arith, f.size))
                ∙ v-is);
            seconds =
                below_more (λ (j : ℕ). number_at after (second + j) ≡ whole_of (float_at l (at + side_count * j + 1))) k
                (λ j h.
                get_or-set_other one (second + k) (second + j) w (pos 0) (λ e. omega arith)
                ∙ get_or-set_other m (first + k) (second + j) v (pos 0) (λ e. omega arith)
                ∙ f.seconds j h)
                (get_or-set_same one (second + k) w (pos 0) (omega (arith, f.size, length-set m (first + k) v)) ∙ w-is);
            outside =
                λ j a b.
                get_or-set_other one (second + k) j w (pos 0) (λ e. b (omega arith) (omega arith))
                ∙ get_or-set_other m (first + k) j v (pos 0) (λ e. a (omega arith) (omega arith))
                ∙ f.outside j (λ g h. a g (omega arith)) (λ g h. b g (omega arith));
          }

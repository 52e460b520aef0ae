-- Recursions that run on by themselves and have something put in at each step: how large a watched number can become.
--
-- `later k x` is the watched number of the state x after k more steps with nothing put in. What is put in at step n adds at most
-- `size n × r k` to twice it, k steps later: r is the size of the response. Nothing else is asked of states, inputs and steps.
use mathlib.Core.Path.{◌≡◌, refl, sym, ap, ap₂, ◌∙◌}
use Prim.Native.Nat.{ℕ, zero, suc, ◌+◌, ◌*◌, ◌^◌, ◌≤◌}
use native.Mathlib.Omega.{arith}
use native.Mathlib.Nat.{zero-add, add-zero, pow-zero, pow-suc}
use lib.IntN.{ℤ, pos, nat_abs}

module _ (size r : ℕ → ℕ) where
  -- what n steps can have put in, as it is felt k steps later
  abbrev pub weight : ℕ → ℕ → ℕ
  weight zero k = 0
  weight (suc n) k = weight n (suc k) + size n * r k

  module _ {X : Type 0} (later : ℕ → X → ℤ) where
    -- n steps have brought the recursion to x
    pub record WatchedBounded (n : ℕ) (x : X) : Type 0 where
      pub bound : (k : ℕ) → 2 * nat_abs (later k x) ≤ weight n k

    -- it begins where nothing is felt later
    pub bounded_start : (x : X) → ((k : ℕ) → later k x ≡ pos 0) → WatchedBounded 0 x
    bounded_start x h = record { bound = λ k. omega (arith, ap nat_abs (h k)) }

    -- one step more
    pub bounded_step : (n : ℕ) (x x' : X) → ((k : ℕ) → 2 * nat_abs (later k x') ≤ 2 * nat_abs (later (suc k) x) + size n * r k) → WatchedBounded n x → WatchedBounded (suc n) x'
    bounded_step n x x' h b = record { bound = λ k. omega (arith, h k, b.bound (suc k)) }

-- ---- inputs that grow with the scale: D at the first step, D^2 at the second

abbrev pub scaled_size : ℕ → ℕ → ℕ
scaled_size D n = D * D ^ n

module _ (D : ℕ) (r : ℕ → ℕ) where
  -- the sum of the first n sizes of the response, on the scale D^n
  abbrev pub scaled_sum : ℕ → ℕ
  scaled_sum zero = 0
  scaled_sum (suc n) = D * (scaled_sum n + r n)

  -- one step more: on the next scale, and one entry of the response more
  weight_grows : (n k : ℕ) → weight (scaled_size D) r (suc n) k ≡ D * (weight (scaled_size D) r n k + r (n + k))
  weight_grows zero k = ap₂ (λ (p i : ℕ). 0 + D * p * r i) (pow-zero D) (sym (zero-add k)) ∙ first (r (0 + k))
    where
      first : (a : ℕ) → 0 + D * 1 * a ≡ D * (0 + a)
      first a = omega arith
  weight_grows (suc n) k =
      ap₂ (λ (v p : ℕ). v + D * p * r k) (weight_grows n (suc k)) (pow-suc D n)
      ∙ next (weight (scaled_size D) r n (suc k)) (r (n + suc k)) (D ^ n) (r k)
      ∙ ap (λ (i : ℕ). D * (weight (scaled_size D) r (suc n) k + r i)) place
    where
      next : (v a p b : ℕ) → D * (v + a) + D * (p * D) * b ≡ D * (v + D * p * b + a)
      next v a p b = omega arith

      place : n + suc k ≡ suc n + k
      place = omega arith

  -- what is felt at once is that sum
  pub weight_now : (n : ℕ) → weight (scaled_size D) r n 0 ≡ scaled_sum n
  weight_now zero = refl
  weight_now (suc n) = weight_grows n 0 ∙ ap₂ (λ (v i : ℕ). D * (v + r i)) (weight_now n) (add-zero n)

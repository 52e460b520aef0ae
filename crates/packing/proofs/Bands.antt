-- Bands stored on both sides: what one store changes, and one band more.
use mathlib.Core.Path.{◌≡◌, refl, ap, ◌∙◌}
use mathlib.Core.List.{List}
use Prim.Native.Nat.{ℕ, ◌+◌, ◌*◌, ◌≤◌, ◌<◌}
use native.Mathlib.Omega.{arith}
use lib.IntN.{ℤ, nat_abs}
use lib.ListN.{length, get_or}
use lib.Ieee.{Float}
use borrow.Author.Count.{below_more}
use Rattle.bands.specs.Bands.{band_count}
use Rattle.bands.specs.declared.Band.{Band}
use Rattle.unit.proofs.PastEnd.{zero_band}
use Rattle.floats.specs.Whole.{float}
use Rattle.engine.specs.declared.Sides.{Sides}
use Rattle.engine.specs.Floats.{largest, float_at, WholeFloats, float_band, band_in}
use Rattle.engine.specs.Layout.{band_floats, set_floats, first_side, second_side, float_band_at, sides_at, band_at_side}
use Rattle.engine.proofs.Store.{IsWhole, float_whole}
use Rattle.engine.proofs.Read.{band_read}
use Rattle.packing.specs.Packing.{float_sides, put_three}
use Rattle.packing.proofs.Three.{three_length, three_whole, three_outside, three_first, three_second, three_third}

-- every coefficient is an f64 exactly
pub record Exact (band : Band) : Type 0 where
  pub alpha : nat_abs band.alpha ≤ largest
  pub beta : nat_abs band.beta ≤ largest
  pub gamma : nat_abs band.gamma ≤ largest

-- a coefficient on both sides
abbrev pub twice : ℤ → Sides Float
twice z = float_sides z z

twice_whole : (z : ℤ) → nat_abs z ≤ largest → IsWhole (float z) × IsWhole (float z)
twice_whole z h = (float_whole (float z) z refl h, float_whole (float z) z refl h)

-- a band on both sides, from place at on
module _ (l : List Float) (at : ℕ) (band : Band) where
  abbrev pub with_band : List Float
  with_band = put_three l at (twice band.alpha) (twice band.beta) (twice band.gamma)

  band_length : length with_band ≡ length l
  band_length = three_length l at (twice band.alpha) (twice band.beta) (twice band.gamma)

  band_whole : Exact band → WholeFloats l → WholeFloats with_band
  band_whole x w =
      three_whole l at (twice band.alpha) (twice band.beta) (twice band.gamma) w
      (twice_whole band.alpha x.alpha) (twice_whole band.beta x.beta) (twice_whole band.gamma x.gamma)

  -- a band that stands before it, or behind
  band_other : (to : ℕ) → ((j : ℕ) → to ≤ j → j ≤ to + 4 → at ≤ j → j ≤ at + 5 → ⊥) → float_band_at with_band to ≡ float_band_at l to
  band_other to away =
      λ i.
      record {
        alpha = outside to (λ g h. away to (omega arith) (omega arith) g h) i;
        beta = outside (to + 2) (λ g h. away (to + 2) (omega arith) (omega arith) g h) i;
        gamma = outside (to + 4) (λ g h. away (to + 4) (omega arith) (omega arith) g h) i;
      }
    where
      outside : (j : ℕ) → (at ≤ j → j ≤ at + 5 → ⊥) → float_at with_band j ≡ float_at l j
      outside = three_outside l at (twice band.alpha) (twice band.beta) (twice band.gamma)

  module _ (room : at + 5 < length l) where
    alphas : sides_at with_band at ≡ twice band.alpha
    alphas = three_first l at (twice band.alpha) (twice band.beta) (twice band.gamma) room

    betas : sides_at with_band (at + 2) ≡ twice band.beta
    betas = three_second l at (twice band.alpha) (twice band.beta) (twice band.gamma) room

    gammas : sides_at with_band (at + 4) ≡ twice band.gamma
    gammas = three_third l at (twice band.alpha) (twice band.beta) (twice band.gamma) room

    band_first : float_band_at with_band at ≡ float_band band
    band_first = λ i. record { alpha = (alphas i).first; beta = (betas i).first; gamma = (gammas i).first }

    band_second : float_band_at with_band (at + 1) ≡ float_band band
    band_second =
        λ i.
        record {
          alpha = (alphas i).second;
          beta = (ap (float_at with_band) (along 2) ∙ ap (λ (s : Sides Float). s.second) betas) i;
          gamma = (ap (float_at with_band) (along 4) ∙ ap (λ (s : Sides Float). s.second) gammas) i;
        }
      where
        along : (k : ℕ) → at + 1 + k ≡ at + k + 1
        along k = omega arith

-- the bands below n are stored
pub record Filled (bands : List Band) (n : ℕ) (l : List Float) : Type 0 where
  pub most : n ≤ band_count
  pub size : length l ≡ set_floats
  pub whole : WholeFloats l
  pub first : (b : ℕ) → b < n → band_at_side l first_side b ≡ get_or bands b zero_band
  pub second : (b : ℕ) → b < n → band_at_side l second_side b ≡ get_or bands b zero_band

-- one band more
pub filled_more : (bands : List Band) (n : ℕ) (l : List Float) → n < band_count → Exact (get_or bands n zero_band) → Filled bands n l → Filled bands (n + 1) (with_band l (band_floats * n) (get_or bands n zero_band))
filled_more bands n l below exact f =
    record {
      most = omega arith;
      size = band_length l at band ∙ f.size;
      whole = band_whole l at band exact f.whole;
      first =
          below_more (λ (b : ℕ). band_at_side after first_side b ≡ get_or bands b zero_band) n
          (λ b h. ap band_in (band_other l at band (band_floats * b) (λ j u v w x. omega arith)) ∙ f.first b h)
          (band_read after at band (band_first l at band room) exact.alpha exact.beta exact.gamma);
      second =
          below_more (λ (b : ℕ). band_at_side after second_side b ≡ get_or bands b zero_band) n
          (λ b h. ap band_in (band_other l at band (band_floats * b + 1) (λ j u v w x. omega arith)) ∙ f.second b h)
          (band_read after (at + 1) band (band_second l at band room) exact.alpha exact.beta exact.gamma);
    }
  where
    band : Band
    band = get_or bands n zero_band

    at : ℕ
    at = band_floats * n

    after : List Float
    after = with_band l at band

    room : at + 5 < length l
    room = omega (arith, f.size)

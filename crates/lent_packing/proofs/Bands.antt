-- The bands of lent numbers, by the floats of their runs.
use mathlib.Core.Path.{◌≡◌, refl, sym, ap, ◌∙◌}
use mathlib.Core.List.{List}
use Prim.Native.Nat.{ℕ, ◌+◌, ◌*◌, ◌<◌}
use native.Mathlib.Omega.{arith}
use lib.IntN.{ℤ, pos}
use lib.ListN.{drop, length}
use lib.Seq.{get_or-drop}
use lib.Ieee.{Float}
use Rattle.lists.proofs.Tabulate.{tabulate_cong}
use Rattle.bands.specs.Bands.{band_count, set_size, band_at}
use Rattle.floats.specs.Whole.{whole_of}
use Rattle.engine.specs.Floats.{float_at}
use Rattle.engine.specs.Layout.{band_floats, set_floats, Side, first_side, second_side, band_at_side, bands_at_side}
use Rattle.packing.specs.Packing.{BandFloatsGives}
use Rattle.numbers.specs.Layout.{bands_place, unit_of}
use Rattle.lent_packing.specs.Runs.{number_at, PutRunsGives}

module _ (numbers : List ℤ) (l : List Float) where
  -- the bands of the side whose floats stand o places on
  module _ (e : Side) (o : ℕ) (places : (b : ℕ) → e.band b ≡ band_floats * b + o) (run : (i j : ℕ) → j ≡ 2 * i + o → i < set_size → whole_of (float_at l j) ≡ number_at numbers (bands_place + i)) where
    band_same : (b : ℕ) → b < band_count → band_at_side l e b ≡ band_at (drop bands_place numbers) b
    band_same b h =
        λ i.
        record {
          alpha = at (3 * b) (e.band b) (omega (arith, places b)) (omega arith) i;
          beta = at (3 * b + 1) (e.band b + 2) (omega (arith, places b)) (omega arith) i;
          gamma = at (3 * b + 2) (e.band b + 4) (omega (arith, places b)) (omega arith) i;
        }
      where
        at : (k j : ℕ) → j ≡ 2 * k + o → k < set_size → whole_of (float_at l j) ≡ number_at (drop bands_place numbers) k
        at k j p g = run k j p g ∙ sym (get_or-drop bands_place numbers k (pos 0))

    bands_same : bands_at_side l e ≡ (unit_of numbers).bands
    unfolding unit_of
    bands_same = tabulate_cong band_count band_same

  pub bands_given : (zeros : List Float) → length zeros ≡ set_floats → PutRunsGives 0 bands_place bands_place set_size zeros numbers l → BandFloatsGives (unit_of numbers).bands l
  bands_given zeros size g =
      record {
        size = g.size ∙ size;
        whole = g.whole;
        first = bands_same first_side 0 (λ b. omega arith) (λ i j e h. ap (λ (k : ℕ). whole_of (float_at l k)) (omega arith) ∙ g.firsts i h);
        second = bands_same second_side 1 (λ b. refl) (λ i j e h. ap (λ (k : ℕ). whole_of (float_at l k)) (omega arith) ∙ g.seconds i h);
      }

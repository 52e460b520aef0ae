-- A band set: the numbers A, B, G of ten bands in turn are the set of these bands, whatever stands behind them.
use mathlib.Core.Path.{◌≡◌, refl, ap, ◌∙◌}
use mathlib.Core.List.{List, [], ◌∷◌, ◌++◌}
use Prim.Native.Nat.{ℕ, zero, suc, ◌+◌, ◌*◌, ◌<◌}
use native.Mathlib.Omega.{arith}
use lib.IntN.{ℤ, pos}
use lib.ListN.{length, get_or}
use Rattle.lists.specs.Lists.{joined}
use Rattle.lists.proofs.Tabulate.{tabulate_is}
use Rattle.bands.specs.Bands.{band_count, band_at}
use Rattle.bands.specs.declared.Band.{Band}
use Rattle.unit.specs.Cleared.{bands_of}
use Rattle.unit.proofs.PastEnd.{zero_band}

-- A, B, G
abbrev pub coefficients : Band → List ℤ
coefficients band = band.alpha ∷ band.beta ∷ band.gamma ∷ []

-- behind the numbers of one band
past_band : (band : Band) (m : List ℤ) (i j : ℕ) → i ≡ j + 3 → get_or (coefficients band ++ m) i (pos 0) ≡ get_or m j (pos 0)
past_band band m i j e = ap (λ (n : ℕ). get_or (coefficients band ++ m) n (pos 0)) three
  where
    three : i ≡ suc (suc (suc j))
    three = omega arith

-- band k
set_band : (bands : List Band) (m : List ℤ) (k : ℕ) → k < length bands → band_at (joined coefficients bands ++ m) k ≡ get_or bands k zero_band
set_band [] m k h = absurd (omega arith)
set_band (b ∷ bands) m zero h = refl
set_band (b ∷ bands) m (suc k) h = next ∙ set_band bands m k (omega arith)
  where
    behind : List ℤ
    behind = joined coefficients bands ++ m

    next : band_at (joined coefficients (b ∷ bands) ++ m) (suc k) ≡ band_at behind k
    next =
        λ i.
        record {
          alpha = past_band b behind (3 * suc k) (3 * k) (omega arith) i;
          beta = past_band b behind (3 * suc k + 1) (3 * k + 1) (omega arith) i;
          gamma = past_band b behind (3 * suc k + 2) (3 * k + 2) (omega arith) i;
        }

-- all of them
pub set_bands : (bands : List Band) (m : List ℤ) → length bands ≡ band_count → bands_of (joined coefficients bands ++ m) ≡ bands
set_bands bands m e =
    tabulate_is bands zero_band band_count (band_at (joined coefficients bands ++ m)) e (λ k h. set_band bands m k (omega (arith, e)))

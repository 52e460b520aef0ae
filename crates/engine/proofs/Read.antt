-- What floats stand for, by the floats at the places of a side: a band, all bands, all sections; what a store leaves of two
-- neighbours; and casts of floats that carry numbers.
use mathlib.Core.Path.{◌≡◌, refl, sym, ◌∙◌, subst}
use mathlib.Core.List.{List}
use Prim.Native.Nat.{ℕ, ◌+◌, ◌^◌, ◌≤◌, ◌<◌}
use native.Mathlib.Nat.{le_trans, lt_of_le_of_lt}
use native.Mathlib.Omega.{arith}
use lib.Dec.{T, lit≤}
use lib.IntN.{pos, nat_abs}
use lib.ListN.{length, get_or, replicate, length-replicate, get_or-replicate}
use lib.Ieee.{Float, nan, binary64, of_bits, of_int, in_signed, to_signed}
use Rattle.lists.proofs.Tabulate.{tabulate_cong, tabulate_all}
use Rattle.words.specs.Words.{word_size}
use Rattle.bands.specs.Bands.{band_count}
use Rattle.bands.specs.declared.Band.{Band}
use Rattle.floats.specs.Whole.{float, whole_of}
use Rattle.floats.proofs.Casts.{int_back}
use Rattle.unit.specs.declared.BandSection.{BandSection}
use Rattle.unit.specs.Cleared.{cleared_band_section}
use Rattle.unit.proofs.PastEnd.{zero_band}
use Rattle.engine.specs.declared.Sides.{Sides}
use Rattle.engine.specs.Floats.{largest, Carries, float_at, WholeFloats, float_band, band_in}
use Rattle.engine.specs.Layout.{Side, float_band_at, put_sides, sides_at, band_at_side, bands_at_side, section_at_side, channel_at_side}
use Rattle.engine.proofs.Carry.{whole_is}
use Rattle.engine.proofs.Store.{float_whole, sides_outside}

-- the cast of a float to a signed width of h bits and the sign loses nothing
pub cast_back : (h : ℕ) (x : Float) → word_size < 2 ^ h → Carries x word_size → T (in_signed binary64 h x) × (to_signed h x ≡ whole_of x)
cast_back h x fine c =
    subst (λ (y : Float). T (in_signed binary64 h y) × (to_signed h y ≡ whole_of x)) (sym c.whole)
    (int_back binary64 h (whole_of x) (le_trans c.small (lit≤ tt)) (lt_of_le_of_lt c.small fine))

-- an array of zeros
zero_is : of_bits binary64 0 ≡ float (pos 0)
unfolding of_bits of_int
zero_is = refl

pub zeros_whole : (n : ℕ) → WholeFloats (replicate n (of_bits binary64 0))
zeros_whole n k h =
    float_whole (float_at (replicate n (of_bits binary64 0)) k) (pos 0)
    (get_or-replicate n k (of_bits binary64 0) nan (omega (arith, h, length-replicate n (of_bits binary64 0))) ∙ zero_is) (lit≤ tt)

-- two neighbours beside those that are stored
pub sides_other : (l : List Float) (at : ℕ) (s : Sides Float) (to : ℕ) → (to ≡ at → ⊥) → (to ≡ at + 1 → ⊥) → (to + 1 ≡ at → ⊥) → sides_at (put_sides l at s) to ≡ sides_at l to
sides_other l at s to here after before =
    λ i. record { first = sides_outside l at s to here after i; second = sides_outside l at s (to + 1) before (λ e. here (omega arith)) i }

-- a band of at most 2^53 in each number
pub band_read : (l : List Float) (at : ℕ) (band : Band) → float_band_at l at ≡ float_band band → nat_abs band.alpha ≤ largest → nat_abs band.beta ≤ largest → nat_abs band.gamma ≤ largest → band_in (float_band_at l at) ≡ band
band_read l at band e a b g =
    λ i.
    record {
      alpha = whole_is (float_at l at) band.alpha (λ j. (e j).alpha) a i;
      beta = whole_is (float_at l (at + 2)) band.beta (λ j. (e j).beta) b i;
      gamma = whole_is (float_at l (at + 4)) band.gamma (λ j. (e j).gamma) g i;
    }

module _ (l : List Float) (e : Side) where
  pub bands_read : (bands : List Band) → length bands ≡ band_count → ((b : ℕ) → b < band_count → band_at_side l e b ≡ get_or bands b zero_band) → bands_at_side l e ≡ bands
  bands_read bands size each = tabulate_cong band_count each ∙ tabulate_all bands zero_band band_count size

  pub sections_read : (sections : List BandSection) → length sections ≡ band_count → ((b : ℕ) → b < band_count → section_at_side l e b ≡ get_or sections b cleared_band_section) → (channel_at_side l e).sections ≡ sections
  sections_read sections size each = tabulate_cong band_count each ∙ tabulate_all sections cleared_band_section band_count size

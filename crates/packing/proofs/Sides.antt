-- The channel on side 0 or 1: where its numbers stand, and that each is read without loss.
use mathlib.Core.Path.{◌≡◌, refl, sym, ap, subst}
use mathlib.Core.List.{List}
use Prim.Native.Nat.{ℕ, zero, suc, ◌+◌, ◌*◌, ◌≤◌, ◌<◌}
use native.Mathlib.Nat.{le_trans}
use native.Mathlib.Omega.{arith}
use lib.Dec.{lit≤}
use lib.IntN.{nat_abs}
use lib.Ieee.{Float}
use Rattle.lists.proofs.Tabulate.{each_at}
use Rattle.words.specs.Words.{word_size}
use Rattle.words.proofs.Laws.{word_size_lem}
use Rattle.bands.specs.Bands.{band_count}
use Rattle.floats.specs.Whole.{whole_of}
use Rattle.unit.specs.Fit.{SectionFit}
use Rattle.unit.proofs.Ranges.{input_size, flag-size, remainder-size}
use Rattle.engine.specs.Floats.{Carries, float_at, band_section_in}
use Rattle.engine.specs.Layout.{side_count, section_floats, x1_place, x2_place, flag_place, pair_floats, float_section_at, section_at_side}
use Rattle.packing.specs.Packing.{pair_side, SectionOfAsks, ChannelOfAsks}

-- where the numbers of a side stand
pub record Places (side : ℕ) : Type 0 where
  pub section : (b : ℕ) → section_floats * b + side ≡ (pair_side side).section b
  pub x1 : x1_place + side ≡ (pair_side side).x1
  pub x2 : x2_place + side ≡ (pair_side side).x2
  pub flag : flag_place + side ≡ (pair_side side).flag

pub places : (side : ℕ) → side < side_count → Places side
places zero h = record { section = λ b. omega arith; x1 = refl; x2 = refl; flag = refl }
places (suc zero) h = record { section = λ b. refl; x1 = refl; x2 = refl; flag = refl }
places (suc (suc n)) h = absurd (omega arith)

module _ (l : List Float) (side : ℕ) (asks : ChannelOfAsks l side) where
  here : Places side
  here = places side asks.below

  carries_at : (k : ℕ) → k < pair_floats → nat_abs (whole_of (float_at l k)) ≤ word_size → Carries (float_at l k) word_size
  carries_at k h s = record { whole = asks.whole k (omega (arith, asks.size)); small = s }

  -- section b
  module _ (b : ℕ) (h : b < band_count) where
    abbrev at : ℕ
    at = section_floats * b + side

    fit : SectionFit (band_section_in (float_section_at l at))
    fit =
        subst (λ (k : ℕ). SectionFit (band_section_in (float_section_at l k))) (sym (here.section b))
        (each_at SectionFit band_count (section_at_side l (pair_side side)) asks.fit.sections b h)

    pub section_asks : SectionOfAsks (float_section_at l at)
    section_asks =
        record {
          y1_carries = carries_at at (omega (arith, asks.below)) (word_size_lem (whole_of (float_at l at)) fit.y1);
          y2_carries = carries_at (at + 2) (omega (arith, asks.below)) (word_size_lem (whole_of (float_at l (at + 2))) fit.y2);
          gain_carries =
              record {
                present_carries = carries_at (at + 4) (omega (arith, asks.below)) (word_size_lem (whole_of (float_at l (at + 4))) fit.present);
                target_carries = carries_at (at + 6) (omega (arith, asks.below)) (word_size_lem (whole_of (float_at l (at + 6))) fit.target);
              };
          remainder_carries =
              carries_at (at + 8) (omega (arith, asks.below)) (le_trans (remainder-size (whole_of (float_at l (at + 8))) fit.remainder) (lit≤ tt));
        }

    pub section_is : band_section_in (float_section_at l at) ≡ section_at_side l (pair_side side) b
    section_is = ap (λ (k : ℕ). band_section_in (float_section_at l k)) (here.section b)

  -- x1, x2 and the flag
  pub x1_carries : Carries (float_at l (x1_place + side)) word_size
  x1_carries =
      carries_at (x1_place + side) (omega (arith, asks.below))
      (subst (λ (k : ℕ). nat_abs (whole_of (float_at l k)) ≤ word_size) (sym here.x1) (input_size (whole_of (float_at l (pair_side side).x1)) asks.fit.x1))

  pub x2_carries : Carries (float_at l (x2_place + side)) word_size
  x2_carries =
      carries_at (x2_place + side) (omega (arith, asks.below))
      (subst (λ (k : ℕ). nat_abs (whole_of (float_at l k)) ≤ word_size) (sym here.x2) (input_size (whole_of (float_at l (pair_side side).x2)) asks.fit.x2))

  pub flag_carries : Carries (float_at l (flag_place + side)) word_size
  flag_carries =
      carries_at (flag_place + side) (omega (arith, asks.below))
      (subst (λ (k : ℕ). nat_abs (whole_of (float_at l k)) ≤ word_size) (sym here.flag) (flag-size (whole_of (float_at l (pair_side side).flag)) asks.fit.flag))

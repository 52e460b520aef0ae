-- Sections stored one by one, one on each side.
use mathlib.Core.Path.{◌≡◌, ap, ◌∙◌}
use mathlib.Core.List.{List}
use Prim.Native.Nat.{ℕ, ◌+◌, ◌*◌, ◌≤◌, ◌<◌}
use native.Mathlib.Omega.{arith}
use lib.ListN.{length, get_or}
use lib.Ieee.{Float}
use borrow.Author.Count.{below_more}
use Rattle.bands.specs.Bands.{band_count}
use Rattle.unit.specs.declared.BandSection.{BandSection}
use Rattle.unit.specs.Cleared.{cleared_band_section}
use Rattle.unit.specs.Fit.{SectionFit}
use Rattle.engine.specs.Floats.{float_at, WholeFloats, float_section, band_section_in}
use Rattle.engine.specs.Layout.{section_floats, pair_floats, first_side, second_side, put_section, section_at_side}
use Rattle.engine.proofs.Carry.{section_back}
use Rattle.engine.proofs.Store.{fit_whole, section_whole, both-length, both_away, both_first, both-second, both_other}

-- the floats of a fit section are whole
put_whole : (l : List Float) (at : ℕ) (s : BandSection) → SectionFit s → WholeFloats l → WholeFloats (put_section l at (float_section s))
put_whole l at s f w = section_whole l at (float_section s) w (fit_whole s f)

-- the sections below n are stored, and what stands behind the sections is as it was in l
pub record Filled (l : List Float) (a b : List BandSection) (n : ℕ) (m : List Float) : Type 0 where
  pub most : n ≤ band_count
  pub size : length m ≡ pair_floats
  pub whole : WholeFloats m
  pub behind : (j : ℕ) → section_floats * band_count ≤ j → float_at m j ≡ float_at l j
  pub first : (k : ℕ) → k < n → section_at_side m first_side k ≡ get_or a k cleared_band_section
  pub second : (k : ℕ) → k < n → section_at_side m second_side k ≡ get_or b k cleared_band_section

-- one section more on each side
module _ (l : List Float) (a b : List BandSection) (n : ℕ) (m : List Float) (below : n < band_count) (f : Filled l a b n m) where
  abbrev s : BandSection
  s = get_or a n cleared_band_section

  abbrev t : BandSection
  t = get_or b n cleared_band_section

  abbrev pub after : List Float
  after = put_section (put_section m (section_floats * n) (float_section s)) (section_floats * n + 1) (float_section t)

  pub filled_more : SectionFit s → SectionFit t → Filled l a b (n + 1) after
  filled_more s-fit t-fit =
      record {
        most = omega arith;
        size = both-length m n (float_section s) (float_section t) f.size below ∙ f.size;
        whole = put_whole (put_section m (section_floats * n) (float_section s)) (section_floats * n + 1) t t-fit (put_whole m (section_floats * n) s s-fit f.whole);
        behind = λ j h. both_away m n (float_section s) (float_section t) f.size below j (λ g e. omega arith) ∙ f.behind j h;
        first =
            below_more (λ (k : ℕ). section_at_side after first_side k ≡ get_or a k cleared_band_section) n
            (λ k h. ap band_section_in (both_other m n (float_section s) (float_section t) f.size below (section_floats * k) (λ j u v w x. omega arith)) ∙ f.first k h)
            (ap band_section_in (both_first m n (float_section s) (float_section t) f.size below) ∙ section_back s s-fit);
        second =
            below_more (λ (k : ℕ). section_at_side after second_side k ≡ get_or b k cleared_band_section) n
            (λ k h. ap band_section_in (both_other m n (float_section s) (float_section t) f.size below (section_floats * k + 1) (λ j u v w x. omega arith)) ∙ f.second k h)
            (ap band_section_in (both-second m n (float_section s) (float_section t) f.size below) ∙ section_back t t-fit);
      }

-- One side's part in a frame, turn by turn: what each turn has of what it asks, and what it adds.
use mathlib.Core.Path.{◌≡◌, refl, sym, ap, ap₂, ◌∙◌, subst}
use mathlib.Core.Bool.{Bool, true, false, cond, ◌||◌}
use mathlib.Core.List.{List}
use Prim.Native.Nat.{ℕ, suc, ◌+◌, ◌*◌, ◌^◌, ◌≤◌, ◌<◌}
use native.Mathlib.Omega.{arith}
use native.Mathlib.Nat.{le_trans}
use lib.Dec.{lit≤}
use lib.IntN.{ℤ, pos, nat_abs, ◌+ℤ◌, ◌-ℤ◌, ◌*ℤ◌}
use lib.ListN.{length}
use lib.Ieee.{Float, binary64, sub}
use Rattle.integers.proofs.Parts.{terms_eq, var, ◌⊕◌, ◌⊖◌}
use Rattle.integers.proofs.Machine.{difference_sized}
use Rattle.lists.specs.Lists.{tabulate, any_of}
use Rattle.lists.proofs.Tabulate.{any_snoc, each_at, at_each, tabulate-length}
use Rattle.words.specs.Words.{word_size}
use Rattle.bands.specs.Bands.{band_count}
use Rattle.bands.specs.declared.Band.{Band}
use Rattle.floats.specs.Whole.{float, whole_of}
use Rattle.floats.proofs.WholeNumbers.{sub_whole}
use Rattle.section.specs.Equation.{Worked, exact_sum, worked}
use Rattle.levels.specs.Levels.{gain_slope, moved}
use Rattle.unit.specs.declared.BandSection.{BandSection}
use Rattle.unit.specs.Frame.{feeds_back, fed_back, section_work, carried_on, section_frame, share, sum_of}
use Rattle.unit.specs.Fit.{BandFit, SectionFit}
use Rattle.unit.proofs.Mix.{sum_snoc}
use Rattle.unit.proofs.Mix.{share_size, share-size, exact_size}
use Rattle.unit.proofs.Ranges.{input_size}
use Rattle.unit.proofs.Stays.{section_stays}
use Rattle.engine.specs.declared.FloatSection.{FloatSection}
use Rattle.engine.specs.declared.Tally.{Tally}
use Rattle.engine.specs.declared.Turned.{Turned}
use Rattle.engine.specs.Floats.{Carries, float_at, WholeFloats, float_band, float_section, band_section_in}
use Rattle.engine.specs.Layout.{set_floats, pair_floats, Side, first_side, second_side, float_band_at, float_section_at, band_at_side, section_at_side}
use Rattle.engine.specs.Frame.{turned, TurnAsks, SideAsks}
use Rattle.engine.proofs.Carry.{carries, whole_is, carries_whole}
use Rattle.engine.proofs.Store.{WholeSection, fit_whole}

-- the side's numbers have their places
pub record Inside (e : Side) : Type 0 where
  pub band : (b : ℕ) → b < band_count → e.band b + 4 < set_floats
  pub section : (b : ℕ) → b < band_count → e.section b + 8 < pair_floats
  pub x1 : e.x1 < pair_floats
  pub x2 : e.x2 < pair_floats
  pub flag : e.flag < pair_floats

pub first_inside : Inside first_side
first_inside =
    record { band = λ b h. omega arith; section = λ b h. omega arith; x1 = omega arith; x2 = omega arith; flag = omega arith }

pub second_inside : Inside second_side
second_inside =
    record { band = λ b h. omega arith; section = λ b h. omega arith; x1 = omega arith; x2 = omega arith; flag = omega arith }

-- what a frame asks, for one side
pub record Begun (bands l : List Float) (e : Side) (x : Float) : Type 0 where
  pub inside : Inside e
  pub bands_size : length bands ≡ set_floats
  pub bands_whole : WholeFloats bands
  pub size : length l ≡ pair_floats
  pub whole : WholeFloats l
  pub asks : SideAsks bands l e x

module _ (bands l : List Float) (e : Side) (x : Float) where
  abbrev X : ℤ
  X = whole_of x

  -- the input of two frames ago, and the difference
  abbrev earlier : Float
  earlier = float_at l e.x2

  abbrev X2 : ℤ
  X2 = whole_of earlier

  abbrev pub way : Float
  way = sub binary64 x earlier

  -- section b after the frame, and whether it limits
  abbrev pub section_after : ℕ → BandSection
  section_after b = section_frame (feeds_back b) (band_at_side bands e b) X X2 (section_at_side l e b)

  abbrev pub limits_at : ℕ → Bool
  limits_at b = (section_work (feeds_back b) (band_at_side bands e b) X X2 (section_at_side l e b)).limited

  abbrev share_after : ℕ → ℤ
  share_after b = share (section_after b)

  -- T with the shares of n sections
  abbrev pub total_of : ℕ → ℤ
  total_of n = pos (2 ^ 23) *ℤ X +ℤ sum_of (tabulate n share_after)

  -- after n turns
  pub record Progress (n : ℕ) (m : List Float) (tally : Tally) : Type 0 where
    pub done : (k : ℕ) → k < n → float_section_at m (e.section k) ≡ float_section (section_after k)
    pub ahead : (k : ℕ) → n ≤ k → k < band_count → float_section_at m (e.section k) ≡ float_section_at l (e.section k)
    pub total_is : tally.total ≡ float (total_of n)
    pub flag_is : tally.flag ≡ cond (any_of (tabulate n limits_at)) (float (pos 1)) (float_at l e.flag)

  module _ (f : Begun bands l e x) where
    section_fit : (b : ℕ) → b < band_count → SectionFit (section_at_side l e b)
    section_fit b h = each_at SectionFit band_count (section_at_side l e) f.asks.channel_fit.sections b h

    band_carries : (b : ℕ) → b < band_count → float_band_at bands (e.band b) ≡ float_band (band_at_side bands e b)
    band_carries b h =
        λ i.
        record {
          alpha = f.bands_whole (e.band b) (omega (arith, f.inside.band b h, f.bands_size)) i;
          beta = f.bands_whole (e.band b + 2) (omega (arith, f.inside.band b h, f.bands_size)) i;
          gamma = f.bands_whole (e.band b + 4) (omega (arith, f.inside.band b h, f.bands_size)) i;
        }

    section_carries : (b : ℕ) → b < band_count → float_section_at l (e.section b) ≡ float_section (section_at_side l e b)
    section_carries b h =
        λ i.
        record {
          y1 = f.whole (e.section b) (omega (arith, f.inside.section b h, f.size)) i;
          y2 = f.whole (e.section b + 2) (omega (arith, f.inside.section b h, f.size)) i;
          gain =
              record {
                present = f.whole (e.section b + 4) (omega (arith, f.inside.section b h, f.size)) i;
                target = f.whole (e.section b + 6) (omega (arith, f.inside.section b h, f.size)) i;
              };
          remainder = f.whole (e.section b + 8) (omega (arith, f.inside.section b h, f.size)) i;
        }

    earlier_carries : Carries earlier word_size
    earlier_carries =
        record {
          whole = f.whole e.x2 (omega (arith, f.inside.x2, f.size));
          small = input_size X2 f.asks.channel_fit.x2;
        }

    way_is : way ≡ float (X -ℤ X2)
    way_is =
        ap (λ (y : Float). sub binary64 y earlier) f.asks.x_carries.whole
        ∙ sub_whole binary64 X (le_trans f.asks.x_carries.small (lit≤ tt)) (carries_whole earlier (lit≤ tt) earlier_carries)

    way_size : nat_abs (X -ℤ X2) ≤ 2 * word_size
    way_size = le_trans (difference_sized X X2 f.asks.x_carries.small earlier_carries.small) (lit≤ tt)

    way_whole : whole_of way ≡ X -ℤ X2
    way_whole = whole_is way (X -ℤ X2) way_is (le_trans way_size (lit≤ tt))

    -- the difference is all that S asks of the inputs
    sum_same : (band : Band) (y1 y2 : ℤ) → exact_sum band (whole_of way) (pos 0) y1 y2 ≡ exact_sum band X X2 y1 y2
    unfolding exact_sum
    sum_same band y1 y2 =
        ap (λ (d : ℤ). band.alpha *ℤ d +ℤ band.gamma *ℤ y1 -ℤ band.beta *ℤ y2)
        (ap (λ (d : ℤ). d -ℤ pos 0) way_whole ∙ terms_eq (var X ⊖ var X2 ⊖ var (pos 0)) (var X ⊖ var X2) (omega arith))

    work_same : (feeds : Bool) (band : Band) (s : BandSection) → section_work feeds band (whole_of way) (pos 0) s ≡ section_work feeds band X X2 s
    work_same feeds band s = ap (λ (S : ℤ). worked (S +ℤ fed_back feeds s)) (sum_same band s.y1 s.y2)

    after_same : (feeds : Bool) (band : Band) (s : BandSection) → section_frame feeds band (whole_of way) (pos 0) s ≡ section_frame feeds band X X2 s
    unfolding section_frame
    after_same feeds band s =
        ap (λ (w : Worked). record { y1 = w.y; y2 = s.y1; gain = moved gain_slope s.gain; remainder = carried_on feeds w }) (work_same feeds band s)

    pub after_fit : (b : ℕ) → b < band_count → SectionFit (section_after b)
    after_fit b h = section_stays (feeds_back b) (band_at_side bands e b) X X2 (section_at_side l e b) (section_fit b h)

    pub total_size_lem : (n : ℕ) → n ≤ band_count → nat_abs (total_of n) ≤ 2 ^ 52
    total_size_lem n h =
        le_trans
        (exact_size X (tabulate n share_after) f.asks.x_carries.small
        (at_each (λ z. nat_abs z ≤ share_size) n share_after (λ k j. share-size (section_after k) (after_fit k (omega arith)))))
        (le_trans most (lit≤ tt))
      where
        most : (length (tabulate n share_after) + 1) * share_size ≤ 11 * share_size
        most = omega (arith, tabulate-length n share_after)

    module _ (n : ℕ) (m : List Float) (tally : Tally) (below : n < band_count) (p : Progress n m tally) where
      -- the turn has what it asks
      pub may_turn : TurnAsks (float_band_at bands (e.band n)) (float_section_at m (e.section n)) way tally
      may_turn =
          subst (λ (s : FloatSection). TurnAsks (float_band_at bands (e.band n)) s way tally) (sym (p.ahead n (omega arith) below))
          (record {
            band_carries = band_carries n below;
            band_fit = each_at BandFit band_count (band_at_side bands e) f.asks.bands_fit n below;
            section_carries = section_carries n below;
            section_fit = section_fit n below;
            d_carries = carries way (X -ℤ X2) way_is way_size (lit≤ tt);
            total_carries = carries tally.total (total_of n) p.total_is (total_size_lem n (omega arith)) (lit≤ tt);
          })

      abbrev result : Turned
      result = turned (feeds_back n) (float_band_at bands (e.band n)) (float_section_at m (e.section n)) way tally

      after_is : section_frame (feeds_back n) (band_at_side bands e n) (whole_of way) (pos 0) (band_section_in (float_section_at m (e.section n))) ≡ section_after n
      after_is =
          ap (λ (s : FloatSection). section_frame (feeds_back n) (band_at_side bands e n) (whole_of way) (pos 0) (band_section_in s)) (p.ahead n (omega arith) below)
          ∙ after_same (feeds_back n) (band_at_side bands e n) (section_at_side l e n)

      pub section_is : result.section ≡ float_section (section_after n)
      unfolding turned
      section_is = ap float_section after_is

      pub total_more : result.tally.total ≡ float (total_of (suc n))
      unfolding turned
      total_more =
          ap float
          (ap₂ (λ (t : ℤ) (s : BandSection). t +ℤ share s) (whole_is tally.total (total_of n) p.total_is (le_trans (total_size_lem n (omega arith)) (lit≤ tt))) after_is
          ∙ sym (assoc (pos (2 ^ 23) *ℤ X) (sum_of (tabulate n share_after)) (share_after n))
          ∙ ap (λ (z : ℤ). pos (2 ^ 23) *ℤ X +ℤ z) (sym (sum_snoc (tabulate n share_after) (share_after n))))
        where
          assoc : (a b c : ℤ) → a +ℤ (b +ℤ c) ≡ a +ℤ b +ℤ c
          assoc a b c = terms_eq (var a ⊕ (var b ⊕ var c)) (var a ⊕ var b ⊕ var c) (omega arith)

      pub flag_more : result.tally.flag ≡ cond (any_of (tabulate (suc n) limits_at)) (float (pos 1)) (float_at l e.flag)
      unfolding turned
      flag_more =
          (λ i. cond (work_is i).limited (float (pos 1)) (p.flag_is i))
          ∙ twice (any_of (tabulate n limits_at)) (limits_at n)
          ∙ ap (λ (t : Bool). cond t (float (pos 1)) (float_at l e.flag)) (sym (any_snoc (tabulate n limits_at) (limits_at n)))
        where
          work_is : section_work (feeds_back n) (band_at_side bands e n) (whole_of way) (pos 0) (band_section_in (float_section_at m (e.section n))) ≡ section_work (feeds_back n) (band_at_side bands e n) X X2 (section_at_side l e n)
          work_is =
              ap (λ (s : FloatSection). section_work (feeds_back n) (band_at_side bands e n) (whole_of way) (pos 0) (band_section_in s)) (p.ahead n (omega arith) below)
              ∙ work_same (feeds_back n) (band_at_side bands e n) (section_at_side l e n)

          twice : (a t : Bool) → cond t (float (pos 1)) (cond a (float (pos 1)) (float_at l e.flag)) ≡ cond (a || t) (float (pos 1)) (float_at l e.flag)
          twice true true = refl
          twice true false = refl
          twice false true = refl
          twice false false = refl

      -- what it stores is whole
      pub turn_whole : WholeSection result.section
      turn_whole = subst WholeSection (sym section_is) (fit_whole (section_after n) (after_fit n below))

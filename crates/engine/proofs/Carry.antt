-- Floats that carry whole numbers: limiting, the flag, and what is read back from floats.
use mathlib.Core.Path.{◌≡◌, refl, sym, ap, ◌∙◌, subst}
use mathlib.Core.Bool.{Bool, true, false, cond, true≢false}
use Prim.Native.Nat.{ℕ, ◌≤◌}
use native.Mathlib.Nat.{le_trans}
use native.Mathlib.Omega.{arith}
use lib.Dec.{lit≤}
use lib.IntN.{ℤ, nat_abs}
use lib.Signed.{lt_z, le_z_yes, ◌≤ℤ◌}
use lib.Ieee.{Float, binary64, lt, eq}
use Rattle.integers.proofs.Parts.{linear}
use Rattle.integers.proofs.Abs.{abs_le}
use Rattle.integers.proofs.Order.{lt_z_true, lt_z_false}
use Rattle.rounding.specs.Rounding.{limit}
use Rattle.rounding.proofs.Limit.{limit_case, limit_inside, limit-low, limit_high, within_bounds, bounds_within}
use Rattle.words.specs.Words.{word_low, word_high, is_word}
use Rattle.words.proofs.Laws.{word_size_lem}
use Rattle.bands.specs.Bands.{band_of}
use Rattle.bands.specs.declared.Band.{Band}
use Rattle.bands.proofs.Laws.{Accepts, band_sizes}
use Rattle.floats.specs.Whole.{float, whole_of}
use Rattle.floats.proofs.Quotient.{whole_back}
use Rattle.floats.proofs.WholeNumbers.{Whole, of_whole, lt_whole, eq_same, eq_itself}
use Rattle.levels.specs.declared.Level.{Level}
use Rattle.unit.specs.declared.BandSection.{BandSection}
use Rattle.unit.specs.Fit.{BandFit, SectionFit, VolumeFit}
use Rattle.unit.proofs.Ranges.{volume_size, remainder-size}
use Rattle.engine.specs.Floats.{largest, Carries, float_band, band_in, float_level, level_in, float_section, band_section_in}
use Rattle.engine.specs.Frame.{greater, limited_float, LevelCarries, LimitAsks}

-- the float of a whole number carries it
pub carries : (x : Float) (z : ℤ) {m : ℕ} → x ≡ float z → nat_abs z ≤ m → m ≤ largest → Carries x m
carries x z {m} e h k = subst (λ (y : Float). Carries y m) (sym e) (record { whole = ap float (sym back); small = subst (λ (w : ℤ). nat_abs w ≤ m) (sym back) h })
  where
    back : whole_of (float z) ≡ z
    back = whole_back z (le_trans h k)

pub whole_is : (x : Float) (z : ℤ) → x ≡ float z → nat_abs z ≤ largest → whole_of x ≡ z
whole_is x z e h = ap whole_of e ∙ whole_back z h

pub carries_whole : (x : Float) {m : ℕ} → m ≤ largest → Carries x m → Whole x (whole_of x)
carries_whole x k c = subst (λ (y : Float). Whole y (whole_of x)) (sym c.whole) (of_whole binary64 (whole_of x) (le_trans c.small k))

-- ---- limiting by two choices

limit-two : (low high v : ℤ) → low ≤ℤ high → (a b : Bool) → lt_z v high ≡ a → lt_z low (cond a v high) ≡ b → cond b (cond a v high) low ≡ limit low high v
limit-two low high v r true true p q =
    limit_case low high v (λ n. v ≡ n) (λ u. absurd (omega (linear, lt_z_true low v q))) (λ u o. absurd (omega (linear, lt_z_true v high p))) (λ u o. refl)
limit-two low high v r true false p q =
    limit_case low high v (λ n. low ≡ n) (λ u. refl) (λ u o. absurd (omega (linear, lt_z_true v high p))) (λ u o. omega (linear, lt_z_false low v q))
limit-two low high v r false true p q =
    limit_case low high v (λ n. high ≡ n) (λ u. absurd (omega (linear, lt_z_false v high p))) (λ u o. refl) (λ u o. omega (linear, lt_z_false v high p))
limit-two low high v r false false p q =
    limit_case low high v (λ n. low ≡ n) (λ u. refl) (λ u o. omega (linear, lt_z_false low high q)) (λ u o. omega (linear, lt_z_false low high q, lt_z_false v high p))

-- floats that are those of whole numbers are limited as the numbers are
module _ (low high v : Float) (L H W : ℤ) (low-is : low ≡ float L) (high_is : high ≡ float H) (v-is : v ≡ float W) (low-size : nat_abs L ≤ largest) (high-size : nat_abs H ≤ largest) (v-size : nat_abs W ≤ largest) (range : L ≤ℤ H) where
  whole : (x : Float) (z : ℤ) → x ≡ float z → nat_abs z ≤ largest → Whole x z
  whole x z e h = subst (λ (y : Float). Whole y z) (sym e) (of_whole binary64 z h)

  -- the higher end chosen, and then the lower
  chosen : (a : Bool) → cond a v high ≡ float (cond a W H)
  chosen true = v-is
  chosen false = high_is

  chosen_whole : (a : Bool) → Whole (cond a v high) (cond a W H)
  chosen_whole true = whole v W v-is v-size
  chosen_whole false = whole high H high_is high-size

  last : (a b : Bool) → cond b (cond a v high) low ≡ float (cond b (cond a W H) L)
  last a true = chosen a
  last a false = low-is

  pub limited_is : limited_float low high v ≡ float (limit L H W)
  limited_is = go (lt v high) refl
    where
      test : lt v high ≡ lt_z W H
      test = lt_whole (whole v W v-is v-size) (whole high H high_is high-size)

      go : (a : Bool) → lt v high ≡ a → greater low (cond a v high) ≡ float (limit L H W)
      go a e =
          last a (lt low (cond a v high))
          ∙ ap float (limit-two L H W range a (lt low (cond a v high)) (sym test ∙ e) (sym (lt_whole (whole low L low-is low-size) (chosen_whole a))))

-- ---- the flag

module _ (rounded y : Float) (l : LimitAsks rounded y) where
  abbrev Z : ℤ
  Z = whole_of rounded

  rounded_whole : Whole rounded Z
  rounded_whole = carries_whole rounded (omega arith) l.rounded_carries

  y_size : nat_abs (limit word_low word_high Z) ≤ largest
  y_size = le_trans (abs_le (limit word_low word_high Z) 8388608 (limit-low word_low word_high (le_z_yes tt) Z) (omega (linear, limit_high word_low word_high (le_z_yes tt) Z))) (lit≤ tt)

  y_whole : Whole y (limit word_low word_high Z)
  y_whole = subst (λ (x : Float). Whole x (limit word_low word_high Z)) (sym l.y_is) (of_whole binary64 (limit word_low word_high Z) y_size)

  pub same_word : eq rounded y ≡ true → is_word Z ≡ true
  same_word e =
      bounds_within word_low word_high Z
      (omega (linear, limit-low word_low word_high (le_z_yes tt) Z, is))
      (omega (linear, limit_high word_low word_high (le_z_yes tt) Z, is))
    where
      is : Z ≡ limit word_low word_high Z
      is = eq_same rounded_whole y_whole e

  pub other_word : eq rounded y ≡ false → is_word Z ≡ false
  other_word e = go (is_word Z) refl
    where
      go : (t : Bool) → is_word Z ≡ t → t ≡ false
      go false h = refl
      go true h = absurd (true≢false (sym (eq_itself rounded rounded_whole) ∙ ap (eq rounded) (sym y_same) ∙ e))
        where
          y_same : y ≡ rounded
          y_same =
              l.y_is
              ∙ ap float (limit_inside word_low word_high Z (within_bounds word_low word_high Z h).0 (within_bounds word_low word_high Z h).1)
              ∙ sym l.rounded_carries.whole

-- ---- a fit section and an accepted band are read back from their floats

word_back : (v : ℤ) → is_word v ≡ true → whole_of (float v) ≡ v
word_back v w = whole_back v (le_trans (word_size_lem v w) (lit≤ tt))

pub section_back : (s : BandSection) → SectionFit s → band_section_in (float_section s) ≡ s
section_back s f =
    λ i.
    record {
      y1 = word_back s.y1 f.y1 i;
      y2 = word_back s.y2 f.y2 i;
      gain = record { present = word_back s.gain.present f.present i; target = word_back s.gain.target f.target i };
      remainder = whole_back s.remainder (le_trans (remainder-size s.remainder f.remainder) (lit≤ tt)) i;
    }

pub band_back : (b : Band) → BandFit b → band_in (float_band b) ≡ b
band_back b f =
    λ i.
    band_of
    (whole_back b.alpha (le_trans sizes.alpha_size (lit≤ tt)) i)
    (whole_back b.beta (le_trans sizes.beta_size (lit≤ tt)) i)
    (whole_back b.gamma (le_trans sizes.gamma_size (lit≤ tt)) i)
  where
    sizes : Accepts b
    sizes = band_sizes b f

-- a volume is read back from its floats, which are words
pub level_back : (v : Level) → VolumeFit v → level_in (float_level v) ≡ v
level_back v f =
    λ i.
    record {
      present = whole_back v.present (le_trans (volume_size v.present f.present) (lit≤ tt)) i;
      target = whole_back v.target (le_trans (volume_size v.target f.target) (lit≤ tt)) i;
    }

pub volume_moves : (v : Level) → VolumeFit v → LevelCarries (float_level v)
volume_moves v f =
    record {
      present_carries = carries (float v.present) v.present refl (volume_size v.present f.present) (lit≤ tt);
      target_carries = carries (float v.target) v.target refl (volume_size v.target f.target) (lit≤ tt);
    }

-- The laws of what an order asks: which places there are, and that an accepted level's target is in its range.
use mathlib.Core.Path.{◌≡◌, refl, sym, ◌∙◌, subst}
use mathlib.Core.Logic.{⊎_elim}
use mathlib.Core.Bool.{Bool, true, false, cond, ◌&&◌, ◌||◌}
use Prim.Native.Nat.{ℕ, ◌≤◌, ◌<◌}
use native.Mathlib.Nat.{eq-or-lt_of_le}
use native.Mathlib.Omega.{arith}
use lib.Dec.{T, eqb, leb, ltb}
use lib.IntN.{ℤ, pos, ◌-ℤ◌, ◌*ℤ◌}
use lib.Ieee.{Float}
use borrow.Author.Tests.{ltb-true, ltb-false, lt-ltb, le-ltb, ne_eqb, leb-true, leb-false, eq-eqb}
use Rattle.integers.proofs.Parts.{linear, var, ◌⊖◌, ◌⊗◌}
use Rattle.rounding.specs.Rounding.{within}
use Rattle.rounding.proofs.Limit.{within_bounds, bounds_within}
use Rattle.words.specs.Words.{word_low, word_high, is_word}
use Rattle.refusals.specs.Numbers.{unless, is_accepted, Accepted}
use Rattle.refusals.specs.declared.Refusal.TheVariants.{NoPlace, PositionOver, NotFinite, FactorRange}
use Rattle.refusals.proofs.Laws.{unless_accepted}
use Rattle.bands.specs.Bands.{band_count}
use Rattle.floats.proofs.Laws.{volume_band_lem, target_word as factor-word, volume_target_lem}
use Rattle.floats.specs.Value.{is_finite, in_range, is_factor, band_lowest, volume_lowest}
use Rattle.unit.specs.Fit.{is_volume}
use Rattle.settings.specs.declared.Setting.{Setting}
use Rattle.settings.specs.declared.Setting.TheVariants.{Position, Factor, Mute}
use Rattle.settings.specs.Settings.{both_sides, volume_band, is_place, side_of, band_position, volume_position, target_of, lowest, level_verdict, order_arguments}

-- ---- the place

-- the first two channels are sides of their own number
pub own_side : (channel : ℕ) → channel < both_sides → side_of channel ≡ channel
own_side channel h = simp (lt-ltb channel both_sides h)

-- where the test of the bands alone is left, that of the volume alone, and none
first_alone : (a b : Bool) → (a && true) || (b && false) ≡ a
first_alone true b = refl
first_alone false true = refl
first_alone false false = refl

second-alone : (a b : Bool) → (a && false) || (b && true) ≡ b
second-alone true true = refl
second-alone true false = refl
second-alone false true = refl
second-alone false false = refl

none-alone : (a b : Bool) → (a && false) || (b && false) ≡ false
none-alone true true = refl
none-alone true false = refl
none-alone false true = refl
none-alone false false = refl

module _ (channels side band : ℕ) where
  -- "a side (0 left, 1 right, 2 both), a band (0 to 9"
  pub band_place : band < band_count → is_place channels side band ≡ leb side channels
  unfolding is_place
  band_place h = simp (lt-ltb band band_count h, ne_eqb band volume_band (λ e. omega arith)) (first_alone (leb side channels) (eqb side both_sides))

  -- "or 10 for the volume, with side 2 only)"
  pub volume_place : band ≡ volume_band → is_place channels side band ≡ eqb side both_sides
  unfolding is_place
  volume_place e = simp (le-ltb band band_count (omega arith), eq-eqb band volume_band e) (second-alone (leb side channels) (eqb side both_sides))

  -- there is nothing past the volume
  pub no_place : volume_band < band → is_place channels side band ≡ false
  unfolding is_place
  no_place h = simp (le-ltb band band_count (omega arith), ne_eqb band volume_band (λ e. omega arith)) (none-alone (leb side channels) (eqb side both_sides))

  -- so a place that isn't the volume's is one of the ten bands
  pub place-below : is_place channels side band ≡ true → (band ≡ volume_band → ⊥) → band < band_count
  place-below e n = go (ltb volume_band band) refl
    where
      go : (t : Bool) → ltb volume_band band ≡ t → band < band_count
      go true h = absurd (subst T (sym (sym (no_place (ltb-true volume_band band h)) ∙ e)) tt)
      go false h = ⊎_elim (λ q. absurd (n q)) (λ l. l) (eq-or-lt_of_le (ltb-false volume_band band h))

-- ---- the target of an accepted level

-- "p × 270,600" up to position 31
volume_position_lem : (p : ℕ) → p ≤ 31 → is_volume (volume_position p) ≡ true
unfolding is_volume volume_position
volume_position_lem p h =
    bounds_within (pos 0) word_high (volume_position p)
    (omega (linear, (var (pos p) ⊗ var (pos 270600)).tie))
    (omega (linear, (var (pos p) ⊗ var (pos 270600)).tie))

-- "(p - 16) × 558,681 from 16 up and (p - 16) × 104,857 below", up to position 31
band_position_lem : (p : ℕ) → p ≤ 31 → is_word (band_position p) ≡ true
unfolding band_position
band_position_lem p h = go (leb 16 p) refl
  where
    go : (t : Bool) → leb 16 p ≡ t → is_word ((pos p -ℤ pos 16) *ℤ cond t (pos 558681) (pos 104857)) ≡ true
    go true e =
        bounds_within word_low word_high _
        (omega (linear, leb-true 16 p e, ((var (pos p) ⊖ var (pos 16)) ⊗ var (pos 558681)).tie))
        (omega (linear, ((var (pos p) ⊖ var (pos 16)) ⊗ var (pos 558681)).tie))
    go false e =
        bounds_within word_low word_high _
        (omega (linear, ((var (pos p) ⊖ var (pos 16)) ⊗ var (pos 104857)).tie))
        (omega (linear, leb-false 16 p e, ((var (pos p) ⊖ var (pos 16)) ⊗ var (pos 104857)).tie))

-- a volume is a word
volume_word : (v : ℤ) → is_volume v ≡ true → is_word v ≡ true
unfolding is_volume
volume_word v e = bounds_within word_low word_high v (omega (linear, (within_bounds (pos 0) word_high v e).0)) (within_bounds (pos 0) word_high v e).1

-- what an accepted order has shown: its place, and its level
pub place_accepted : (channels side band : ℕ) (setting : Setting) → is_accepted (order_arguments channels side band setting) ≡ true → is_place channels side band ≡ true
place_accepted channels side band setting e = (unless_accepted (is_place channels side band) NoPlace (level_verdict band setting) e).0

-- and of the level
pub level_accepted : (channels side band : ℕ) (setting : Setting) → is_accepted (order_arguments channels side band setting) ≡ true → is_accepted (level_verdict band setting) ≡ true
level_accepted channels side band setting e = (unless_accepted (is_place channels side band) NoPlace (level_verdict band setting) e).1

-- what an accepted position and an accepted factor have shown
position_accepted : (band p : ℕ) → is_accepted (level_verdict band (Position p)) ≡ true → p ≤ 31
unfolding level_verdict
position_accepted band p e = leb-true p 31 (unless_accepted (leb p 31) PositionOver Accepted e).0

-- of a factor: finite, and in its range
factor_accepted : (band : ℕ) (f : Float) → is_accepted (level_verdict band (Factor f)) ≡ true → is_factor (lowest band) f ≡ true
unfolding level_verdict
factor_accepted band f e = simp (first.0, (unless_accepted (in_range (lowest band) f) FactorRange Accepted first.1).0)
  where
    first : (is_finite f ≡ true) × (is_accepted (unless (in_range (lowest band) f) FactorRange Accepted) ≡ true)
    first = unless_accepted (is_finite f) NotFinite (unless (in_range (lowest band) f) FactorRange Accepted) e

-- a factor that the volume or a band takes is one that a band takes
pub factor_fits : (band : ℕ) (f : Float) → is_accepted (level_verdict band (Factor f)) ≡ true → is_factor band_lowest f ≡ true
factor_fits band f e = go (eqb band volume_band) (factor_accepted band f e)
  where
    go : (t : Bool) → is_factor (cond t volume_lowest band_lowest) f ≡ true → is_factor band_lowest f ≡ true
    go true h = volume_band_lem f h
    go false h = h

-- "the volume V is 0 to 8,388,607": so is its target
pub target_volume : (channels side band : ℕ) (setting : Setting) → is_accepted (order_arguments channels side band setting) ≡ true → band ≡ volume_band → is_volume (target_of band setting) ≡ true
unfolding target_of is_volume within
target_volume channels side band setting e b = go setting (level_accepted channels side band setting e)
  where
    is_volume_lem : eqb band volume_band ≡ true
    is_volume_lem = eq-eqb band volume_band b

    go : (s : Setting) → is_accepted (level_verdict band s) ≡ true → is_volume (target_of band s) ≡ true
    go (Position p) a = simp is_volume_lem (volume_position_lem p (position_accepted band p a))
    go (Factor f) a = volume_target_lem f (simp is_volume_lem at (factor_accepted band f a))
    go Mute a = simp is_volume_lem refl

-- a word, where both choices of a test are
either : (t : Bool) (v g : ℤ) → is_word v ≡ true → is_word g ≡ true → is_word (cond t v g) ≡ true
either true v g hv hg = hv
either false v g hv hg = hg

-- "Gains g are words": so are their targets
pub level_word : (band : ℕ) (setting : Setting) → is_accepted (level_verdict band setting) ≡ true → is_word (target_of band setting) ≡ true
unfolding target_of within
level_word band (Position p) a =
    either (eqb band volume_band) (volume_position p) (band_position p)
    (volume_word (volume_position p) (volume_position_lem p (position_accepted band p a)))
    (band_position_lem p (position_accepted band p a))
level_word band (Factor f) a = factor-word f
level_word band Mute a = either (eqb band volume_band) (pos 0) word_low refl refl

pub target_word : (channels side band : ℕ) (setting : Setting) → is_accepted (order_arguments channels side band setting) ≡ true → is_word (target_of band setting) ≡ true
target_word channels side band setting e = level_word band setting (level_accepted channels side band setting e)

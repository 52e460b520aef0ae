-- `engine::FloatLevel::moved` meets its contract: the distance is whole, and limited to the slope either way.
use mathlib.Core.Path.{◌≡◌, refl, ap, ap₂, ◌∙◌}
use Prim.Native.Nat.{ℕ, ◌+◌, ◌≤◌}
use native.Mathlib.Nat.{le_trans}
use native.Mathlib.Omega.{arith}
use lib.Dec.{lit≤}
use lib.IntN.{ℤ, pos, neg_ℤ, nat_abs, ◌-ℤ◌, +ℤ_idl}
use lib.Signed.{◌≤ℤ◌}
use lib.Ieee.{Float, binary64, of_bits, of_int, sub, add}
use Rattle.integers.proofs.Machine.{difference_sized}
use Rattle.integers.proofs.Parts.{linear, var, ⊝◌}
use Rattle.integers.proofs.Abs.{abs_neg, abs_le}
use Rattle.rounding.specs.Rounding.{limit}
use Rattle.rounding.proofs.Limit.{limit-low, limit_high}
use Rattle.words.specs.Words.{word_size}
use Rattle.floats.specs.Whole.{float, whole_of}
use Rattle.floats.proofs.WholeNumbers.{of_whole, add_whole, sub_whole}
use Rattle.levels.specs.Levels.{ramp}
use Rattle.engine.specs.Floats.{largest}
use Rattle.engine.specs.Frame.{limited_float}
use Rattle.engine.proofs.Carry.{carries_whole, limited_is}
use Rattle.engine.proofs.FloatLevel.moved.Goals.{After-row_known-1, Start}
use Rattle.engine.proofs.FloatLevel.moved.Goals as goal

-- the slope downwards: 0 - slope, which is never minus zero
abbrev falling : Float → Float
falling step = sub binary64 (of_bits binary64 0) step

falling-is : (n : ℕ) → n ≤ largest → falling (float (pos n)) ≡ float (neg_ℤ (pos n))
unfolding of_bits of_int
falling-is n h = sub_whole binary64 (pos 0) (lit≤ tt) (of_whole binary64 (pos n) h) ∙ ap float (+ℤ_idl (neg_ℤ (pos n)))

module _ (c : After-row_known-1) where
  abbrev s : Start
  s = c.before.before

  abbrev slope : ℕ
  slope = s.args.slope

  slope-size : slope ≤ largest
  slope-size = omega (arith, s.ranges.slope)

  abbrev Down : ℤ
  Down = neg_ℤ (pos slope)

  down-size : nat_abs Down ≤ largest
  down-size = omega (arith, slope-size, abs_neg (pos slope))

  down-up : Down ≤ℤ pos slope
  down-up = omega (linear, (⊝ var (pos slope)).tie)

  abbrev P : ℤ
  P = whole_of s.args.self.present

  abbrev R : ℤ
  R = whole_of s.args.self.target

  abbrev way : Float
  way = sub binary64 s.args.self.target s.args.self.present

  way-is : way ≡ float (R -ℤ P)
  way-is =
      ap (λ (x : Float). sub binary64 x s.args.self.present) s.requires.target_carries.whole
      ∙ sub_whole binary64 R (le_trans s.requires.target_carries.small (lit≤ tt)) (carries_whole s.args.self.present (lit≤ tt) s.requires.present_carries)

  way-size : nat_abs (R -ℤ P) ≤ word_size + word_size
  way-size = difference_sized R P s.requires.target_carries.small s.requires.present_carries.small

  abbrev distance : ℤ
  distance = limit Down (pos slope) (R -ℤ P)

  distance-size : nat_abs distance ≤ largest
  distance-size = le_trans (abs_le distance slope (limit-low Down (pos slope) down-up (R -ℤ P)) (limit_high Down (pos slope) down-up (R -ℤ P))) slope-size

  limited-way : limited_float (falling (float (pos slope))) (float (pos slope)) way ≡ float distance
  limited-way =
      limited_is (falling (float (pos slope))) (float (pos slope)) way Down (pos slope) (R -ℤ P) (falling-is slope slope-size) refl way-is down-size slope-size
      (le_trans way-size (lit≤ tt)) down-up

pub returns : goal.returns
unfolding ramp
returns c = λ i. record { present = next i; target = (s (goal.at.returns c).After-row_known-1).requires.target_carries.whole i }
  where
    next : add binary64 (s (goal.at.returns c).After-row_known-1).args.self.present c.limited.result ≡ float (ramp (slope (goal.at.returns c).After-row_known-1) (P (goal.at.returns c).After-row_known-1) (R (goal.at.returns c).After-row_known-1))
    next =
        ap₂ (add binary64) (s (goal.at.returns c).After-row_known-1).requires.present_carries.whole (c.limited.ensures ∙ limited-way (goal.at.returns c).After-row_known-1)
        ∙ add_whole binary64 (P (goal.at.returns c).After-row_known-1) (le_trans (s (goal.at.returns c).After-row_known-1).requires.present_carries.small (lit≤ tt)) (of_whole binary64 (distance (goal.at.returns c).After-row_known-1) (distance-size (goal.at.returns c).After-row_known-1))

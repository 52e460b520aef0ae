-- S of a section's turn in floats, with what is fed back: products and sums are whole and below 2^53, so that nothing is rounded. A product that is
-- zero may be minus zero, and so may S where no remainder is added; the rounding to a whole number gives plus zero.
use mathlib.Core.Path.{◌≡◌, refl, sym, ap, ◌∙◌, subst}
use mathlib.Core.Bool.{Bool, true, false, cond, not}
use Prim.Native.Nat.{◌+◌, ◌*◌, ◌^◌, ◌≤◌, ◌<◌}
use native.Mathlib.Nat.{le_trans, le_of_lt, lt_of_le_of_lt}
use native.Mathlib.Omega.{arith}
use lib.Dec.{lit≤, lit<}
use lib.IntN.{ℤ, pos, nat_abs, ◌+ℤ◌, ◌-ℤ◌, ◌*ℤ◌}
use lib.Ieee.{Float, binary64, prec, add, sub, mul}
use Rattle.integers.proofs.Parts.{var, ◌⊕◌, ◌⊖◌, terms_eq}
use Rattle.integers.proofs.Machine.{sum_sized, difference_sized, product_sized}
use Rattle.rounding.specs.Rounding.{nearest, taken}
use Rattle.rounding.proofs.Nearest.{nearest-size}
use Rattle.words.specs.Words.{word_size, is_word}
use Rattle.bands.specs.declared.Band.{Band}
use Rattle.floats.specs.Whole.{float}
use Rattle.floats.proofs.WholeNumbers.{Whole, of_whole, add_whole, sub_whole, mul_whole, add-both, sub-both}
use Rattle.section.specs.Equation.{sum_shift, exact_sum, worked}
use Rattle.unit.specs.Sizes.{remainder_size}
use Rattle.unit.specs.Frame.{carried_on}
use Rattle.engine.specs.Frame.{increased_by, carried_by}

abbrev pub float_sum : Float → Float → Float → Float → Float → Float → Float
float_sum alpha beta gamma d y1 y2 = add binary64 (sub binary64 (mul binary64 alpha d) (mul binary64 beta y2)) (mul binary64 gamma y1)

pub record Sizes (band : Band) (d y1 y2 remainder : ℤ) : Type 0 where
  pub alpha_size : nat_abs band.alpha ≤ word_size
  pub beta_size : nat_abs band.beta ≤ word_size
  pub gamma_size : nat_abs band.gamma ≤ word_size
  pub d_size : nat_abs d ≤ 2 * word_size
  pub y1_size : nat_abs y1 ≤ word_size
  pub y2_size : nat_abs y2 ≤ word_size
  pub small_remainder : nat_abs remainder ≤ remainder_size

module _ (band : Band) (d y1 y2 remainder : ℤ) where
  -- S, and S with what is fed back; the floats that are worked for these, and what rounding takes
  abbrev S : ℤ
  S = exact_sum band d (pos 0) y1 y2

  abbrev pub fed_sum : Bool → ℤ
  fed_sum feeds = S +ℤ cond feeds remainder (pos 0)

  abbrev pub rounded : Bool → ℤ
  rounded feeds = nearest (fed_sum feeds) sum_shift

  abbrev pub plain_on : Float
  plain_on = float_sum (float band.alpha) (float band.beta) (float band.gamma) (float d) (float y1) (float y2)

  abbrev pub sum_on : Bool → Float
  sum_on feeds = increased_by feeds plain_on (float remainder)

  abbrev pub took : Bool → Float
  took feeds = sub binary64 (sum_on feeds) (mul binary64 (float (pos (2 ^ sum_shift))) (float (rounded feeds)))

  module _ (z : Sizes band d y1 y2 remainder) where
    abbrev forward : ℤ
    forward = band.alpha *ℤ d

    abbrev back1 : ℤ
    back1 = band.gamma *ℤ y1

    abbrev back2 : ℤ
    back2 = band.beta *ℤ y2

    forward_size : nat_abs forward ≤ word_size * (2 * word_size)
    forward_size = product_sized band.alpha d z.alpha_size z.d_size

    back1_size : nat_abs back1 ≤ word_size * word_size
    back1_size = product_sized band.gamma y1 z.gamma_size z.y1_size

    back2_size : nat_abs back2 ≤ word_size * word_size
    back2_size = product_sized band.beta y2 z.beta_size z.y2_size

    part_size : nat_abs (forward -ℤ back2) ≤ word_size * (2 * word_size) + word_size * word_size
    part_size = difference_sized forward back2 forward_size back2_size

    whole_size : nat_abs (forward -ℤ back2 +ℤ back1) ≤ word_size * (2 * word_size) + word_size * word_size + word_size * word_size
    whole_size = sum_sized (forward -ℤ back2) back1 part_size back1_size

    reordered : forward -ℤ back2 +ℤ back1 ≡ S
    unfolding exact_sum
    reordered =
        terms_eq (var forward ⊖ var back2 ⊕ var back1) (var forward ⊕ var back1 ⊖ var back2) (omega arith)
        ∙ ap (λ (e : ℤ). band.alpha *ℤ e +ℤ back1 -ℤ back2) (terms_eq (var d) (var d ⊖ var (pos 0)) (omega arith))

    plain_size : nat_abs S ≤ word_size * (2 * word_size) + word_size * word_size + word_size * word_size
    plain_size = subst (λ (s : ℤ). nat_abs s ≤ word_size * (2 * word_size) + word_size * word_size + word_size * word_size) reordered whole_size

    added_size : (feeds : Bool) → nat_abs (cond feeds remainder (pos 0)) ≤ remainder_size
    added_size true = z.small_remainder
    added_size false = lit≤ tt

    pub sum-size : (feeds : Bool) → nat_abs (fed_sum feeds) < 2 ^ prec binary64
    sum-size feeds = lt_of_le_of_lt (sum_sized S (cond feeds remainder (pos 0)) plain_size (added_size feeds)) (lit< tt)

    word : (v : ℤ) → nat_abs v ≤ word_size → Whole (float v) v
    word v h = of_whole binary64 v (le_trans h (lit≤ tt))

    plain_whole : Whole plain_on S
    plain_whole =
        subst (λ (s : ℤ). Whole plain_on s) reordered
        (add-both binary64
        (sub-both binary64
        (mul_whole binary64 (word band.alpha z.alpha_size) (of_whole binary64 d (le_trans z.d_size (lit≤ tt))) (le_trans forward_size (lit≤ tt)))
        (mul_whole binary64 (word band.beta z.beta_size) (word y2 z.y2_size) (le_trans back2_size (lit≤ tt)))
        (le_trans part_size (lit≤ tt)))
        (mul_whole binary64 (word band.gamma z.gamma_size) (word y1 z.y1_size) (le_trans back1_size (lit≤ tt)))
        (le_trans whole_size (lit≤ tt)))

    -- a sum that begins with the remainder is no minus zero
    fed_is : sum_on true ≡ float (fed_sum true)
    fed_is =
        add_whole binary64 remainder (le_trans z.small_remainder (lit≤ tt)) plain_whole
        ∙ ap float (terms_eq (var remainder ⊕ var S) (var S ⊕ var remainder) (omega arith))

    pub sum_whole : (feeds : Bool) → Whole (sum_on feeds) (fed_sum feeds)
    sum_whole true = subst (λ (s : Float). Whole s (fed_sum true)) (sym fed_is) (of_whole binary64 (fed_sum true) (le_of_lt (sum-size true)))
    sum_whole false = subst (λ (s : ℤ). Whole plain_on s) (terms_eq (var S) (var S ⊕ var (pos 0)) (omega arith)) plain_whole

    -- what rounding took is whole, and carried on
    rounded_size : nat_abs (rounded true) ≤ 2 ^ 31
    rounded_size = nearest-size (fed_sum true) sum_shift (2 ^ 31) (le_trans (le_of_lt (sum-size true)) (lit≤ tt))

    took_is : took true ≡ float (worked (fed_sum true)).remainder
    unfolding worked taken
    took_is =
        ap (λ (s : Float). sub binary64 s (mul binary64 (float (pos (2 ^ sum_shift))) (float (rounded true)))) fed_is
        ∙ sub_whole binary64 (fed_sum true) (le_of_lt (sum-size true))
        (mul_whole binary64 (of_whole binary64 (pos (2 ^ sum_shift)) (lit≤ tt)) (of_whole binary64 (rounded true) (le_trans rounded_size (lit≤ tt)))
        (le_trans (product_sized (pos (2 ^ sum_shift)) (rounded true) {m = 2 ^ sum_shift} {n = 2 ^ 31} (lit≤ tt) rounded_size) (lit≤ tt)))

    pub carried_is : (feeds : Bool) → carried_by feeds (rounded feeds) (took feeds) ≡ float (carried_on feeds (worked (fed_sum feeds)))
    unfolding worked
    carried_is true = go (not (is_word (rounded true)))
      where
        go : (t : Bool) → cond t (float (pos 0)) (took true) ≡ float (cond t (pos 0) (worked (fed_sum true)).remainder)
        go true = refl
        go false = took_is
    carried_is false = refl

-- S of a step in floats. Each coefficient and each word is at most 2^23 in size, so products and sums are whole and below 2^53: nothing is
-- rounded. The sums are floats of whole numbers, so that none of them is minus zero; of the products only that they are whole is known.
use mathlib.Core.Path.{◌≡◌, ap, ◌∙◌}
use Prim.Native.Nat.{ℕ, ◌+◌, ◌*◌, ◌^◌, ◌≤◌}
use native.Mathlib.Nat.{le_trans}
use native.Mathlib.Omega.{arith}
use lib.Dec.{T, leb, lit≤, leb→le}
use lib.IntN.{ℤ, pos, nat_abs, ◌+ℤ◌, ◌-ℤ◌, ◌*ℤ◌, +ℤ_idl}
use lib.Ieee.{Float, binary64, prec, add, sub, mul}
use Rattle.integers.proofs.Parts.{var, ◌⊕◌, ◌⊖◌, terms_eq}
use Rattle.integers.proofs.Machine.{difference_sized, product_sized}
use Rattle.words.specs.Words.{word_size}
use Rattle.bands.specs.declared.Band.{Band}
use Rattle.floats.specs.Whole.{float}
use Rattle.floats.proofs.WholeNumbers.{Whole, of_whole, add_whole, sub_whole, mul_whole}
use Rattle.section.specs.Equation.{exact_sum}
use Rattle.section.specs.Asks.{ExactSumAsks}

-- the code's S
abbrev pub float_sum : Float → Float → Float → Float → Float → Float → Float → Float → Float
float_sum zero alpha beta gamma x x2 y1 y2 =
    add binary64 (sub binary64 (add binary64 zero (mul binary64 alpha (sub binary64 x x2))) (mul binary64 beta y2)) (mul binary64 gamma y1)

-- a size of at most m, and so of at most 2^53
pub below : {n m : ℕ} → n ≤ m → T (leb m (2 ^ prec binary64)) → n ≤ 2 ^ prec binary64
below {n} {m} h t = le_trans h (leb→le m (2 ^ prec binary64) t)

module _ (band : Band) (x x2 y1 y2 : ℤ) (small : ExactSumAsks band x x2 y1 y2) where
  -- A × (x - x2), G × y1 and B × y2
  abbrev forward : ℤ
  forward = band.alpha *ℤ (x -ℤ x2)

  abbrev back1 : ℤ
  back1 = band.gamma *ℤ y1

  abbrev back2 : ℤ
  back2 = band.beta *ℤ y2

  change_size : nat_abs (x -ℤ x2) ≤ word_size + word_size
  change_size = difference_sized x x2 small.x_size small.x2_size

  forward_size : nat_abs forward ≤ word_size * (word_size + word_size)
  forward_size = product_sized band.alpha (x -ℤ x2) small.alpha_size change_size

  back1_size : nat_abs back1 ≤ word_size * word_size
  back1_size = product_sized band.gamma y1 small.gamma_size small.y1_size

  back2_size : nat_abs back2 ≤ word_size * word_size
  back2_size = product_sized band.beta y2 small.beta_size small.y2_size

  part_size : nat_abs (forward -ℤ back2) ≤ word_size * (word_size + word_size) + word_size * word_size
  part_size = difference_sized forward back2 forward_size back2_size

  -- the order of the summands does not matter
  reordered : forward -ℤ back2 +ℤ back1 ≡ exact_sum band x x2 y1 y2
  unfolding exact_sum
  reordered = terms_eq (var forward ⊖ var back2 ⊕ var back1) (var forward ⊕ var back1 ⊖ var back2) (omega arith)

  -- a coefficient or a word as a float
  word : (z : ℤ) → nat_abs z ≤ word_size → Whole (float z) z
  word z h = of_whole binary64 z (below h tt)

  change_is : sub binary64 (float x) (float x2) ≡ float (x -ℤ x2)
  change_is = sub_whole binary64 x (below small.x_size tt) (word x2 small.x2_size)

  forward_whole : Whole (mul binary64 (float band.alpha) (float (x -ℤ x2))) forward
  forward_whole =
      mul_whole binary64 (word band.alpha small.alpha_size) (of_whole binary64 (x -ℤ x2) (below change_size tt))
      (below forward_size tt)

  back1_whole : Whole (mul binary64 (float band.gamma) (float y1)) back1
  back1_whole =
      mul_whole binary64 (word band.gamma small.gamma_size) (word y1 small.y1_size) (below back1_size tt)

  back2_whole : Whole (mul binary64 (float band.beta) (float y2)) back2
  back2_whole =
      mul_whole binary64 (word band.beta small.beta_size) (word y2 small.y2_size) (below back2_size tt)

  -- from plus zero on, one product after another
  pub sum_exact : float_sum (float (pos 0)) (float band.alpha) (float band.beta) (float band.gamma) (float x) (float x2) (float y1) (float y2) ≡ float (exact_sum band x x2 y1 y2)
  sum_exact =
      ap (λ (d : Float). add binary64 (sub binary64 (add binary64 (float (pos 0)) (mul binary64 (float band.alpha) d)) (mul binary64 (float band.beta) (float y2))) (mul binary64 (float band.gamma) (float y1)))
      change_is
      ∙ ap (λ (d : Float). add binary64 (sub binary64 d (mul binary64 (float band.beta) (float y2))) (mul binary64 (float band.gamma) (float y1)))
      (add_whole binary64 (pos 0) (lit≤ tt) forward_whole ∙ ap float (+ℤ_idl forward))
      ∙ ap (λ (d : Float). add binary64 d (mul binary64 (float band.gamma) (float y1)))
      (sub_whole binary64 forward (below forward_size tt) back2_whole)
      ∙ add_whole binary64 (forward -ℤ back2) (below part_size tt) back1_whole
      ∙ ap float reordered

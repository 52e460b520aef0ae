-- `frames::word` meets its contract: 256 × the sample is an input word, which an f64 holds.
use mathlib.Core.Path.{◌≡◌, sym, ap, ◌∙◌, subst}
use Prim.Native.Nat.{◌≤◌}
use native.Mathlib.Nat.{le_trans}
use lib.Dec.{T, lit≤}
use lib.IntN.{ℤ, pos, nat_abs, ◌*ℤ◌}
use lib.Ieee.{binary64, in_float}
use mir.Syntax.{w64}
use mir.Val.{SFits, to_z, of_z}
use Rattle.integers.proofs.Machine.{Num, num, literal, below-fits, binary, binary_need}
use Rattle.words.specs.Words.{word_size}
use Rattle.floats.specs.Whole.{float}
use Rattle.floats.proofs.Casts.{int_in}
use Rattle.unit.proofs.Ranges.{input_size}
use Rattle.frames.specs.Bytes.{word_of, word_at}
use Rattle.frames.proofs.Bytes.{word_input}
use Rattle.frames.proofs.word.Goals.{After-sample}
use Rattle.frames.proofs.word.Goals as goal

module _ (c : After-sample) where
  abbrev x : ℤ
  x = word_at c.args.input.now c.args.at

  abbrev Sample : Num w64
  Sample = num c.sample.result (record { sfits = c.sample.type_inv })

  product_is : pos 256 *ℤ c.sample.result ≡ x
  product_is = ap word_of c.sample.ensures

  x-size : nat_abs x ≤ word_size
  x-size = input_size x (word_input c.args.input.now c.args.at)

  x_fits : SFits w64 (pos 256 *ℤ c.sample.result)
  x_fits = below-fits {z = pos 256 *ℤ c.sample.result} (subst (λ (z : ℤ). nat_abs z ≤ word_size) (sym product_is) x-size) tt

  x-reads : to_z w64 (of_z w64 (pos 256 *ℤ to_z w64 (of_z w64 c.sample.result))) ≡ x
  x-reads = (binary ◌*ℤ◌ (literal 256) Sample x_fits).reads ∙ product_is

pub overflow_mul-result : goal.overflow_mul-result
overflow_mul-result c = binary_need ◌*ℤ◌ (literal 256) (Sample c) (x_fits c)

pub int_to_float-result : goal.int_to_float-result
int_to_float-result c = subst (λ (z : ℤ). T (in_float binary64 z)) (sym (x-reads (goal.at.int_to_float-result c).After-sample)) (int_in binary64 (x (goal.at.int_to_float-result c).After-sample) (le_trans (x-size (goal.at.int_to_float-result c).After-sample) (lit≤ tt)))

pub returns : goal.returns
returns c = ap float (x-reads (goal.at.returns c).After-sample)

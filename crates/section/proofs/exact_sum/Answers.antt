-- `section::exact_sum` meets its contract: each operand is at most 2^23 in size, and the bounds of the results show that they fit.
use Prim.Native.Nat.{◌≤◌}
use lib.IntN.{ℤ, nat_abs}
use mir.Syntax.{w64}
use Rattle.integers.proofs.Machine.{Bounded, num, below-fits, sum, difference, product, result, result_need}
use Rattle.words.specs.Words.{word_size}
use Rattle.section.specs.Equation.{exact_sum}
use Rattle.section.proofs.exact_sum.Goals.{Start}
use Rattle.section.proofs.exact_sum.Goals as goal

abbrev operand : (z : ℤ) → nat_abs z ≤ word_size → Bounded w64
operand z h = record { held = num z (below-fits h tt); bound = word_size; within = h }

module _ (s : Start) where
  abbrev X : Bounded w64
  X = operand s.args.x s.requires.x_size

  abbrev X2 : Bounded w64
  X2 = operand s.args.x2 s.requires.x2_size

  abbrev Y1 : Bounded w64
  Y1 = operand s.args.y1 s.requires.y1_size

  abbrev Y2 : Bounded w64
  Y2 = operand s.args.y2 s.requires.y2_size

  abbrev A : Bounded w64
  A = operand s.args.alpha s.requires.alpha_size

  abbrev B : Bounded w64
  B = operand s.args.beta s.requires.beta_size

  abbrev G : Bounded w64
  G = operand s.args.gamma s.requires.gamma_size

  abbrev Change : Bounded w64
  Change = result difference X X2 tt

  abbrev Forward : Bounded w64
  Forward = result product A Change tt

  abbrev Back1 : Bounded w64
  Back1 = result product G Y1 tt

  abbrev Both : Bounded w64
  Both = result sum Forward Back1 tt

  abbrev Back2 : Bounded w64
  Back2 = result product B Y2 tt

  abbrev Whole : Bounded w64
  Whole = result difference Both Back2 tt

pub overflow_sub-result : goal.overflow_sub-result
overflow_sub-result c = result_need difference (X c) (X2 c) tt

pub overflow_mul-result : goal.overflow_mul-result
overflow_mul-result c = result_need product (A c) (Change c) tt

pub overflow_mul-result-2 : goal.overflow_mul-result-2
overflow_mul-result-2 c = result_need product (G c) (Y1 c) tt

pub overflow_add-result : goal.overflow_add-result
overflow_add-result c = result_need sum (Forward c) (Back1 c) tt

pub overflow_mul-result-3 : goal.overflow_mul-result-3
overflow_mul-result-3 c = result_need product (B c) (Y2 c) tt

pub overflow_sub-result-2 : goal.overflow_sub-result-2
overflow_sub-result-2 c = result_need difference (Both c) (Back2 c) tt

pub returns : goal.returns
unfolding exact_sum
returns c = (Whole c).held.reads

-- `section::remainder_of` meets its contract: product and difference stay below 2^50, and what rounding took is at most 2^21 in size.
use mathlib.Core.Path.{◌≡◌, sym, ap, ◌∙◌, subst}
use Prim.Native.Nat.{◌^◌, ◌≤◌}
use lib.Dec.{lit≤}
use lib.IntN.{ℤ, pos, nat_abs, ◌-ℤ◌, ◌*ℤ◌}
use mir.Syntax.{w32, w64}
use mir.Val.{SFits}
use Rattle.integers.proofs.Machine.{Bounded, num, literal, below-fits, difference, product, result, result_need, unary, unary_need}
use Rattle.rounding.specs.Rounding.{taken}
use Rattle.rounding.proofs.Nearest.{nearest-size}
use Rattle.section.specs.Equation.{sum_shift, worked}
use Rattle.section.specs.Asks.{sum_size}
use Rattle.section.proofs.Laws.{remainder-size}
use Rattle.section.proofs.remainder_of.Goals.{Start}
use Rattle.section.proofs.remainder_of.Goals as goal

module _ (s : Start) where
  abbrev S : ℤ
  S = s.args.sum

  rounded-size : nat_abs s.args.rounded ≤ 2 ^ 26
  rounded-size = subst (λ (z : ℤ). nat_abs z ≤ 2 ^ 26) (sym s.requires.rounded_is) (nearest-size S sum_shift (2 ^ 26) s.requires.small)

  abbrev Sum : Bounded w64
  Sum = record { held = num S (below-fits s.requires.small tt); bound = sum_size; within = s.requires.small }

  abbrev Rounded : Bounded w64
  Rounded = record { held = num s.args.rounded (below-fits rounded-size tt); bound = 2 ^ 26; within = rounded-size }

  abbrev Scale : Bounded w64
  Scale = record { held = literal (2 ^ sum_shift); bound = 2 ^ sum_shift; within = lit≤ tt }

  abbrev Whole : Bounded w64
  Whole = result product Scale Rounded tt

  abbrev Left : Bounded w64
  Left = result difference Sum Whole tt

  left_is : S -ℤ pos (2 ^ sum_shift) *ℤ s.args.rounded ≡ taken S sum_shift
  unfolding taken
  left_is = ap (λ (z : ℤ). S -ℤ pos (2 ^ sum_shift) *ℤ z) s.requires.rounded_is

  left-fits : SFits w32 (S -ℤ pos (2 ^ sum_shift) *ℤ s.args.rounded)
  unfolding worked
  left-fits = subst (λ (z : ℤ). SFits w32 z) (sym left_is) (below-fits (remainder-size S) tt)

pub overflow_mul-result : goal.overflow_mul-result
overflow_mul-result c = result_need product (Scale c) (Rounded c) tt

pub overflow_sub-result : goal.overflow_sub-result
overflow_sub-result c = result_need difference (Sum c) (Whole c) tt

pub overflow_cast-result : goal.overflow_cast-result
overflow_cast-result c = unary_need (λ (z : ℤ). z) (Left c).held (left-fits c)

pub returns : goal.returns
returns c = (unary (λ (z : ℤ). z) (Left c).held (left-fits c)).reads ∙ left_is c

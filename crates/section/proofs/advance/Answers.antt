-- `section::advance` meets its contract: the exact sum, rounded, saturated and remembered, is the definition's.
use mathlib.Core.Path.{◌≡◌, sym, ap, ◌∙◌, subst}
use mathlib.Core.Bool.{not}
use Prim.Native.Nat.{◌≤◌}
use native.Mathlib.Omega.{arith}
use lib.Dec.{lit≤}
use lib.IntN.{ℤ, nat_abs}
use mir.Syntax.{w32, w64}
use mir.Val.{SFits, to_z, of_z}
use mir.Facts.{to_z-of_z}
use Rattle.integers.proofs.Parts.{linear}
use Rattle.integers.proofs.Machine.{num, unary, unary_need, range_fits, reads_back}
use Rattle.rounding.specs.Rounding.{nearest, taken, limit}
use Rattle.words.specs.Words.{word_low, word_high, is_word}
use Rattle.section.specs.Equation.{exact_sum, sum_shift, worked}
use Rattle.section.specs.Step.{accepted_step}
use Rattle.section.specs.Asks.{ExactSumAsks, sum_size}
use Rattle.section.proofs.Laws.{accepted_small, sum-size, sum_roundable, worked-low, worked_high}
use Rattle.section.proofs.advance.Goals.{Start, After-step_sum-sum, After-round_near-rounded, After-saturate-y, After-in_range}
use Rattle.section.proofs.advance.Goals as goal

-- the numbers of the step, as read
module _ (c : Start) where
  abbrev S : ℤ
  S = exact_sum c.args.section.band c.args.x c.args.section.x2 c.args.section.y1 c.args.section.y2

  small : ExactSumAsks c.args.section.band c.args.x c.args.section.x2 c.args.section.y1 c.args.section.y2
  small = accepted_small c.args.section c.args.x c.requires

pub step_sum-sum-requires : goal.step_sum-sum-requires
step_sum-sum-requires c =
    subst (λ (z : ℤ). ExactSumAsks c.args.section.band z c.args.section.x2 c.args.section.y1 c.args.section.y2) (sym (to_z-of_z c.ranges.x)) (small c)

-- ---- the exact sum

module _ (c : After-step_sum-sum) where
  abbrev start : Start
  start = c.before

  sum-reads : to_z w64 (of_z w64 c.step_sum-sum.result) ≡ S start
  sum-reads =
      to_z-of_z {w = w64} (record { sfits = c.step_sum-sum.type_inv })
      ∙ c.step_sum-sum.ensures
      ∙ ap (λ (z : ℤ). exact_sum c.args.section.band z c.args.section.x2 c.args.section.y1 c.args.section.y2) (to_z-of_z c.ranges.x)

pub round_near-rounded-requires : goal.round_near-rounded-requires
round_near-rounded-requires c =
    record {
      some = lit≤ tt;
      few = lit≤ tt;
      small = sum_roundable c.args.section.band c.args.x c.args.section.x2 c.args.section.y1 c.args.section.y2 _ (sum-reads c) (small c.before);
    }

-- ---- rounded and saturated

module _ (c : After-saturate-y) where
  abbrev summed : After-step_sum-sum
  summed = c.before.before

  rounded-reads : to_z w64 (of_z w64 c.round_near-rounded.result) ≡ nearest (S (start summed)) sum_shift
  rounded-reads =
      to_z-of_z {w = w64} (record { sfits = c.round_near-rounded.type_inv })
      ∙ c.round_near-rounded.ensures
      ∙ ap (λ (z : ℤ). nearest z sum_shift) (sum-reads summed)

  y-is : c.saturate-y.result ≡ (worked (S (start summed))).y
  unfolding worked
  y-is = c.saturate-y.ensures ∙ ap (limit word_low word_high) rounded-reads

  y-wide : SFits w64 c.saturate-y.result
  y-wide = record { sfits = c.saturate-y.type_inv }

  y-fits : SFits w32 c.saturate-y.result
  y-fits =
      subst (λ (z : ℤ). SFits w32 z) (sym y-is)
      (range_fits (worked (S (start summed))).y (omega (linear, worked-low (S (start summed)))) (omega (linear, worked_high (S (start summed)))))

  y-reads : to_z w32 (of_z w32 (to_z w64 (of_z w64 c.saturate-y.result))) ≡ (worked (S (start summed))).y
  y-reads = (unary (λ (z : ℤ). z) (num c.saturate-y.result y-wide) y-fits).reads ∙ y-is

pub overflow_cast-y : goal.overflow_cast-y
overflow_cast-y c = unary_need (λ (z : ℤ). z) (num c.saturate-y.result (y-wide c)) (y-fits c)

-- ---- what the rounding took

pub remainder_of-requires : goal.remainder_of-requires
remainder_of-requires c =
    let y = (goal.at.remainder_of-requires c).After-saturate-y in
    let s = summed y in
    record {
      small =
          subst (λ (z : ℤ). nat_abs z ≤ sum_size) (sym (sum-reads s))
          (sum-size c.args.section.band c.args.x c.args.section.x2 c.args.section.y1 c.args.section.y2 (small (start s)));
      rounded_is = rounded-reads y ∙ ap (λ (z : ℤ). nearest z sum_shift) (sym (sum-reads s));
    }

module _ (c : After-in_range) where
  abbrev limited_to : After-saturate-y
  limited_to = c.before

  limited-is : not c.in_range.result ≡ (worked (S (start (summed limited_to)))).limited
  unfolding worked
  limited-is = ap not (c.in_range.ensures ∙ ap is_word (rounded-reads limited_to))

pub returns : goal.returns
unfolding accepted_step worked
returns c =
    let w = (goal.at.returns c).After-in_range in
    let y = limited_to w in
    let remainder-reads : to_z w32 (of_z w32 c.remainder_of.result) ≡ (worked (S (start (summed y)))).remainder =
    to_z-of_z {w = w32} (record { sfits = c.remainder_of.type_inv }) ∙ c.remainder_of.ensures ∙ ap (λ (z : ℤ). taken z sum_shift) (sum-reads (summed y)) in
    λ i.
    record {
      y = y-reads y i;
      limited = limited-is w i;
      remainder = remainder-reads i;
      section =
          record {
            band = c.args.section.band;
            x1 = to_z-of_z c.ranges.x i;
            x2 = reads_back w32 c.args.section.x1 (omega arith) i;
            y1 = y-reads y i;
            y2 = reads_back w32 c.args.section.y1 (omega arith) i;
          };
    }

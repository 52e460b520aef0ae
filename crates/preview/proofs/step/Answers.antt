-- `preview::step` meets its contract: S is that of the section that is carried, and so are the result and the remainder.
use mathlib.Core.Path.{◌≡◌, sym, ap, ap₂, ◌∙◌, subst}
use Prim.Native.Nat.{◌^◌, ◌≤◌}
use native.Mathlib.Nat.{le_trans}
use lib.Dec.{lit≤}
use lib.IntN.{ℤ, pos, nat_abs}
use lib.Ieee.{Float, binary64, prec, of_bits, of_int}
use mir.Syntax.{w32}
use mir.Val.{to_z, of_z}
use mir.Facts.{to_z-of_z}
use Rattle.rounding.specs.Rounding.{nearest, limit}
use Rattle.words.specs.Words.{word_low, word_high}
use Rattle.floats.specs.Whole.{float, NearestWholeAsks, whole_of}
use Rattle.floats.proofs.Quotient.{whole_back}
use Rattle.section.specs.declared.Section.{Section}
use Rattle.section.specs.Equation.{exact_sum, sum_shift, worked}
use Rattle.section.specs.Asks.{ExactSumAsks, sum_size}
use Rattle.section.specs.Step.{accepted_step}
use Rattle.section.proofs.Laws.{accepted_small, sum-size}
use Rattle.section.proofs.Ready.{accepted_advances}
use Rattle.preview.specs.declared.Preview.{Preview}
use Rattle.preview.specs.Carried.{carried_step, section_in}
use Rattle.preview.proofs.Sum.{float_sum, sum_exact}
use Rattle.preview.proofs.Results.{quotient_of, left_over, roundable, quotient_rounds, rounded_size, remainder_is}
use Rattle.preview.proofs.step.Goals.{After-nearest_whole-rounded, Start}
use Rattle.preview.proofs.step.Goals as goal

module _ (s : Start) where
  abbrev p : Preview
  p = s.args.preview

  abbrev x : ℤ
  x = s.args.x

  -- the section that is carried, and its S
  abbrev section : Section
  section = section_in p

  abbrev S : ℤ
  S = exact_sum section.band x section.x2 section.y1 section.y2

  small : ExactSumAsks section.band x section.x2 section.y1 section.y2
  small = accepted_small section x s.requires.accepted

  S-size : nat_abs S ≤ sum_size
  S-size = sum-size section.band x section.x2 section.y1 section.y2 small

  -- the input as a float
  abbrev input : Float
  input = of_int binary64 (to_z w32 (of_z w32 x))

  input-is : input ≡ float x
  input-is = ap float (to_z-of_z s.ranges.x)

  -- the code's S
  abbrev total : Float
  total = float_sum (of_bits binary64 0) p.alpha p.beta p.gamma input p.x2 p.y1 p.y2

  total-is : total ≡ float S
  unfolding of_bits of_int
  total-is =
      (λ i. float_sum
      (float (pos 0))
      (s.requires.carries i).alpha
      (s.requires.carries i).beta
      (s.requires.carries i).gamma
      (input-is i)
      (s.requires.carries i).x2
      (s.requires.carries i).y1
      (s.requires.carries i).y2)
      ∙ sum_exact section.band x section.x2 section.y1 section.y2 small

pub nearest_whole-rounded-requires : goal.nearest_whole-rounded-requires
unfolding of_bits
nearest_whole-rounded-requires c = subst (λ (t : Float). NearestWholeAsks (quotient_of t)) (sym (total-is s)) (roundable (S s) (S-size s))
  where
    s : Start
    s = (goal.at.nearest_whole-rounded-requires c).Start

-- ---- S rounded

module _ (c : After-nearest_whole-rounded) where
  abbrev s : Start
  s = (goal.at.limit_word-requires c).Start

  abbrev r : ℤ
  r = nearest (S s) sum_shift

  rounded-is : c.nearest_whole-rounded.result ≡ float r
  unfolding of_bits
  rounded-is = c.nearest_whole-rounded.ensures ∙ ap (λ (t : Float). float (whole_of (quotient_of t))) (total-is s) ∙ ap float (quotient_rounds (S s) (S-size s))

  r-size : nat_abs r ≤ 2 ^ prec binary64
  r-size = le_trans (rounded_size (S s) (S-size s)) (lit≤ tt)

  rounded-whole : whole_of c.nearest_whole-rounded.result ≡ r
  rounded-whole = ap whole_of rounded-is ∙ whole_back r r-size

pub limit_word-requires : goal.limit_word-requires
limit_word-requires c =
    record {
      whole = rounded-is c ∙ ap float (sym (rounded-whole c));
      small = subst (λ (z : ℤ). nat_abs z ≤ 2 ^ prec binary64) (sym (rounded-whole c)) (r-size c);
    }

pub returns : goal.returns
unfolding of_bits accepted_step worked
returns c =
    (λ i. record {
      preview =
          record {
            alpha = ((s m).requires.carries i).alpha;
            beta = ((s m).requires.carries i).beta;
            gamma = ((s m).requires.carries i).gamma;
            x1 = input-is (s m) i;
            x2 = ((s m).requires.carries i).x1;
            y1 = (c.limit_word.ensures ∙ ap (λ (z : ℤ). float (limit word_low word_high z)) (rounded-whole m)) i;
            y2 = ((s m).requires.carries i).y1;
          };
      remainder = (ap₂ left_over (total-is (s m)) (rounded-is m) ∙ remainder_is (S (s m)) (S-size (s m))) i;
    })
    ∙ ap carried_step (sym (accepted_advances (section (s m)) (x (s m)) (s m).requires.accepted))
  where
    m : After-nearest_whole-rounded
    m = (goal.at.returns c).After-nearest_whole-rounded

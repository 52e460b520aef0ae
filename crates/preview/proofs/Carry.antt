-- A preview carries its section whole: the section is read back from the floats, none of which is minus zero, and so are the result and the
-- remainder after a step.
use mathlib.Core.Path.{◌≡◌, sym, ap, ◌∙◌, subst}
use mathlib.Core.Bool.{true, false}
use Prim.Native.Nat.{◌^◌, ◌≤◌}
use native.Mathlib.Nat.{le_trans, lt_of_le_of_lt}
use lib.Dec.{T, lit≤, lit<}
use lib.IntN.{ℤ, nat_abs}
use lib.Ieee.{binary64, prec, to_signed, in_signed}
use Rattle.words.specs.Words.{word_size, is_word}
use Rattle.words.proofs.Laws.{word_size_lem}
use Rattle.refusals.specs.Numbers.{is_accepted}
use Rattle.bands.specs.Bands.{band_of}
use Rattle.bands.proofs.Laws.{Accepts, band_sizes}
use Rattle.floats.specs.Whole.{float, is_minus_zero}
use Rattle.floats.proofs.Casts.{int_back}
use Rattle.floats.proofs.Quotient.{whole_back}
use Rattle.floats.proofs.WholeNumbers.{of_plus_zero}
use Rattle.section.specs.declared.Section.{Section}
use Rattle.section.specs.declared.Stepped.{Stepped}
use Rattle.section.specs.Equation.{exact_sum}
use Rattle.section.specs.Step.{step_verdict, accepted_step, stepped}
use Rattle.section.proofs.Laws.{remainder-size}
use Rattle.section.proofs.Ready.{HoldsWords, accepted_advances, ready_accepts, ready_stays}
use Rattle.preview.specs.declared.Preview.{Preview}
use Rattle.preview.specs.Carried.{carried, carried_step, section_in, PlusZero, StepAsks}
use Rattle.preview.proofs.Sum.{below}

-- each number of the section is at most 2^53 in size
record Sizes (s : Section) : Type 0 where
  alpha_size : nat_abs s.band.alpha ≤ 2 ^ prec binary64
  beta_size : nat_abs s.band.beta ≤ 2 ^ prec binary64
  gamma_size : nat_abs s.band.gamma ≤ 2 ^ prec binary64
  x1_size : nat_abs s.x1 ≤ 2 ^ prec binary64
  x2_size : nat_abs s.x2 ≤ 2 ^ prec binary64
  y1_size : nat_abs s.y1 ≤ 2 ^ prec binary64
  y2_size : nat_abs s.y2 ≤ 2 ^ prec binary64

word_below : (z : ℤ) → is_word z ≡ true → nat_abs z ≤ 2 ^ prec binary64
word_below z w = below (word_size_lem z w) tt

module _ (s : Section) (r : HoldsWords s) where
  sizes : Sizes s
  sizes =
      record {
        alpha_size = below coefficients.alpha_size tt;
        beta_size = below coefficients.beta_size tt;
        gamma_size = below coefficients.gamma_size tt;
        x1_size = word_below s.x1 r.x1_word;
        x2_size = word_below s.x2 r.x2_word;
        y1_size = word_below s.y1 r.y1_word;
        y2_size = word_below s.y2 r.y2_word;
      }
    where
      coefficients : Accepts s.band
      coefficients = band_sizes s.band r.band_accepted

  -- the section is read back from the floats
  pub carried_back : section_in (carried s) ≡ s
  carried_back =
      λ i.
      record {
        band = band_of (whole_back s.band.alpha sizes.alpha_size i) (whole_back s.band.beta sizes.beta_size i) (whole_back s.band.gamma sizes.gamma_size i);
        x1 = whole_back s.x1 sizes.x1_size i;
        x2 = whole_back s.x2 sizes.x2_size i;
        y1 = whole_back s.y1 sizes.y1_size i;
        y2 = whole_back s.y2 sizes.y2_size i;
      }

  -- and none of them is minus zero
  pub carried_plus : PlusZero (carried s)
  carried_plus =
      record {
        alpha_plus = of_plus_zero binary64 s.band.alpha sizes.alpha_size;
        beta_plus = of_plus_zero binary64 s.band.beta sizes.beta_size;
        gamma_plus = of_plus_zero binary64 s.band.gamma sizes.gamma_size;
        x1_plus = of_plus_zero binary64 s.x1 sizes.x1_size;
        x2_plus = of_plus_zero binary64 s.x2 sizes.x2_size;
        y1_plus = of_plus_zero binary64 s.y1 sizes.y1_size;
        y2_plus = of_plus_zero binary64 s.y2 sizes.y2_size;
      }

  -- a preview of it may be stepped on a word x
  module _ (x : ℤ) (w : is_word x ≡ true) where
    pub may_step : (p : Preview) → p ≡ carried s → StepAsks p x
    may_step p e =
        record {
          carries = e ∙ ap carried (sym section_is);
          accepted = ap (λ (t : Section). is_accepted (step_verdict t x)) section_is ∙ ready_accepts s x r w;
        }
      where
        section_is : section_in p ≡ s
        section_is = ap section_in e ∙ carried_back

    -- the result is the y1 of the section after the step, a word
    abbrev next : Section
    next = (stepped s x).section

    next-result : next.y1 ≡ (stepped s x).y
    unfolding accepted_step
    next-result = ap (λ (a : Stepped). a.section.y1) advances ∙ sym (ap (λ (a : Stepped). a.y) advances)
      where
        advances : stepped s x ≡ accepted_step s x
        advances = accepted_advances s x (ready_accepts s x r w)

    -- so the cast of it to an i32 loses nothing
    pub result_back : T (in_signed binary64 31 (float next.y1)) × (to_signed 31 (float next.y1) ≡ (stepped s x).y)
    result_back = (cast.0, cast.1 ∙ next-result)
      where
        cast : T (in_signed binary64 31 (float next.y1)) × (to_signed 31 (float next.y1) ≡ next.y1)
        cast = int_back binary64 31 next.y1 (le_trans size (lit≤ tt)) (lt_of_le_of_lt size (lit< tt))
          where
            size : nat_abs next.y1 ≤ word_size
            size = word_size_lem next.y1 (ready_stays s x r w).y1_word

    -- the remainder is at most 2^21 in size
    remainder_small : nat_abs (stepped s x).remainder ≤ 2 ^ 21
    unfolding accepted_step
    remainder_small = subst (λ (a : Stepped). nat_abs a.remainder ≤ 2 ^ 21) (sym (accepted_advances s x (ready_accepts s x r w))) (remainder-size (exact_sum s.band x s.x2 s.y1 s.y2))

    -- so the cast of it loses nothing either
    pub remainder_back : T (in_signed binary64 31 (float (stepped s x).remainder)) × (to_signed 31 (float (stepped s x).remainder) ≡ (stepped s x).remainder)
    remainder_back = int_back binary64 31 (stepped s x).remainder (le_trans remainder_small (lit≤ tt)) (lt_of_le_of_lt remainder_small (lit< tt))

    -- and it is plus zero where it is zero
    pub remainder_plus : is_minus_zero (carried_step (stepped s x)).remainder ≡ false
    remainder_plus = of_plus_zero binary64 (stepped s x).remainder (le_trans remainder_small (lit≤ tt))

-- `engine::turn` meets its contract: S is whole, its rounding and limiting are the section's, and so are the gain's move, the flag, and the remainder that
-- is carried on.
use mathlib.Core.Path.{◌≡◌, refl, sym, ap, ◌∙◌, subst}
use mathlib.Core.Bool.{Bool}
use Prim.Native.Nat.{◌^◌, ◌≤◌, ◌<◌}
use native.Mathlib.Nat.{le_trans, le_of_lt}
use lib.Dec.{lit≤}
use lib.IntN.{ℤ, pos, nat_abs, ◌+ℤ◌, ◌*ℤ◌}
use lib.Signed.{le_z_yes}
use lib.Ieee.{Float, binary64, prec, of_bits, of_int, add, sub, mul}
use Rattle.integers.proofs.Machine.{product_sized}
use Rattle.rounding.specs.Rounding.{nearest, limit}
use Rattle.rounding.proofs.Nearest.{nearest-size}
use Rattle.words.specs.Words.{word_size, word_low, word_high}
use Rattle.words.proofs.Laws.{word_size_lem}
use Rattle.bands.specs.declared.Band.{Band}
use Rattle.bands.proofs.Laws.{Accepts, band_sizes}
use Rattle.floats.specs.Whole.{float, whole_of}
use Rattle.floats.proofs.Quotient.{quotient_roundable, quotient_whole}
use Rattle.floats.proofs.WholeNumbers.{Whole, of_whole, add_whole, mul_whole}
use Rattle.section.specs.Equation.{sum_shift, worked}
use Rattle.section.proofs.Laws.{worked-size}
use Rattle.levels.specs.Levels.{gain_slope, ramp}
use Rattle.levels.proofs.Laws.{ramp-size}
use Rattle.unit.specs.declared.BandSection.{BandSection}
use Rattle.unit.specs.Frame.{carried_on, section_frame}
use Rattle.unit.proofs.Ranges.{remainder-size}
use Rattle.engine.specs.Floats.{largest, Carries, band_in, band_section_in}
use Rattle.engine.specs.Frame.{LimitAsks, unless_limited, increased_by, carried_by, turned}
use Rattle.engine.proofs.Carry.{carries, whole_is, limited_is}
use Rattle.engine.proofs.Sum.{float_sum, Sizes, fed_sum, sum_on, sum-size, sum_whole, carried_is}
use Rattle.engine.proofs.turn.Goals.{After-increased-sum, After-limited-y, After-nearest_whole-rounded}
use Rattle.engine.proofs.turn.Goals as goal

-- the ends of a word, and 2^22
abbrev lowest : Float
lowest = of_bits binary64 13934137247084314624

abbrev highest : Float
highest = of_bits binary64 4710765209155796992

abbrev scale : Float
scale = of_bits binary64 4706261610602168320

lowest-is : lowest ≡ float word_low
unfolding of_bits of_int
lowest-is = refl

highest-is : highest ≡ float word_high
unfolding of_bits of_int
highest-is = refl

scale-is : scale ≡ float (pos (2 ^ sum_shift))
unfolding of_bits of_int
scale-is = refl

-- ---- S

module _ (a : After-increased-sum) where
  abbrev feeds : Bool
  feeds = a.args.feeds

  abbrev band : Band
  band = band_in a.args.band

  abbrev section : BandSection
  section = band_section_in a.args.section

  abbrev d : ℤ
  d = whole_of a.args.d

  coefficients : Accepts band
  coefficients = band_sizes band a.requires.band_fit

  sizes : Sizes band d section.y1 section.y2 section.remainder
  sizes =
      record {
        alpha_size = le_trans coefficients.alpha_size (lit≤ tt);
        beta_size = le_trans coefficients.beta_size (lit≤ tt);
        gamma_size = le_trans coefficients.gamma_size (lit≤ tt);
        d_size = a.requires.d_carries.small;
        y1_size = word_size_lem section.y1 a.requires.section_fit.y1;
        y2_size = word_size_lem section.y2 a.requires.section_fit.y2;
        small_remainder = remainder-size section.remainder a.requires.section_fit.remainder;
      }

  -- S with what is fed back
  abbrev S : ℤ
  S = fed_sum band d section.y1 section.y2 section.remainder feeds

  small : nat_abs S < 2 ^ prec binary64
  small = sum-size band d section.y1 section.y2 section.remainder sizes feeds

  abbrev sum : Float
  sum = a.increased-sum.result

  sum-float : sum ≡ sum_on band d section.y1 section.y2 section.remainder feeds
  sum-float =
      a.increased-sum.ensures
      ∙ (λ i. increased_by feeds
      (float_sum (a.requires.band_carries i).alpha (a.requires.band_carries i).beta (a.requires.band_carries i).gamma (a.requires.d_carries.whole i) (a.requires.section_carries i).y1 (a.requires.section_carries i).y2)
      (a.requires.section_carries i).remainder)

  sum_is : Whole sum S
  sum_is = subst (λ (x : Float). Whole x S) (sym sum-float) (sum_whole band d section.y1 section.y2 section.remainder sizes feeds)

  abbrev r : ℤ
  r = nearest S sum_shift

  r-size : nat_abs r ≤ largest
  r-size = le_trans (nearest-size S sum_shift (2 ^ 31) (le_trans (le_of_lt small) (lit≤ tt))) (lit≤ tt)

  abbrev gain : ℤ
  gain = ramp gain_slope section.gain.present section.gain.target

  present-size : nat_abs section.gain.present ≤ word_size
  present-size = word_size_lem section.gain.present a.requires.section_fit.present

  target-size : nat_abs section.gain.target ≤ word_size
  target-size = word_size_lem section.gain.target a.requires.section_fit.target

  gain-size : nat_abs gain ≤ word_size
  gain-size = ramp-size gain_slope section.gain.present section.gain.target present-size target-size

pub nearest_whole-rounded-requires : goal.nearest_whole-rounded-requires
unfolding of_bits
nearest_whole-rounded-requires c = quotient_roundable sum_shift (sum c) (S c) (lit≤ tt) (lit≤ tt) (sum_is c) (small c)

-- ---- rounded

module _ (c : After-nearest_whole-rounded) where
  abbrev a : After-increased-sum
  a = c.before

  rounded-is : c.nearest_whole-rounded.result ≡ float (r a)
  unfolding of_bits
  rounded-is = c.nearest_whole-rounded.ensures ∙ ap float (quotient_whole sum_shift (sum a) (S a) (lit≤ tt) (lit≤ tt) (sum_is a) (small a))

  rounded-whole : whole_of c.nearest_whole-rounded.result ≡ r a
  rounded-whole = whole_is c.nearest_whole-rounded.result (r a) rounded-is (r-size a)

  rounded-carries : Carries c.nearest_whole-rounded.result largest
  rounded-carries = carries c.nearest_whole-rounded.result (r a) rounded-is (r-size a) (lit≤ tt)

  -- what rounding took, carried on
  carried-taken : carried_by (feeds a) (whole_of c.nearest_whole-rounded.result) (sub binary64 (sum a) (mul binary64 scale c.nearest_whole-rounded.result)) ≡ float (carried_on (feeds a) (worked (S a)))
  carried-taken =
      (λ i. carried_by (feeds a) (rounded-whole i) (sub binary64 (sum-float a i) (mul binary64 (scale-is i) (rounded-is i))))
      ∙ carried_is (band a) (d a) (section a).y1 (section a).y2 (section a).remainder (sizes a) (feeds a)

-- ---- limited

module _ (c : After-limited-y) where
  y-whole : c.limited-y.result ≡ float (limit word_low word_high (r (a c.before)))
  y-whole =
      c.limited-y.ensures
      ∙ limited_is lowest highest c.before.nearest_whole-rounded.result word_low word_high (r (a c.before)) lowest-is highest-is (rounded-is c.before) (lit≤ tt) (lit≤ tt) (r-size (a c.before)) (le_z_yes tt)

  limit-asks : LimitAsks c.before.nearest_whole-rounded.result c.limited-y.result
  limit-asks =
      record {
        rounded_carries = rounded-carries c.before;
        y_is = y-whole ∙ ap (λ (z : ℤ). float (limit word_low word_high z)) (sym (rounded-whole c.before));
      }

  y-is : c.limited-y.result ≡ float (worked (S (a c.before))).y
  unfolding worked
  y-is = y-whole

pub moved-gain-requires : goal.moved-gain-requires
moved-gain-requires c =
    record {
      present_carries = carries n.args.section.gain.present (section n).gain.present (ap (λ h. h.gain.present) n.requires.section_carries) (present-size n) (lit≤ tt);
      target_carries = carries n.args.section.gain.target (section n).gain.target (ap (λ h. h.gain.target) n.requires.section_carries) (target-size n) (lit≤ tt);
    }
  where
    n : After-increased-sum
    n = (goal.at.moved-gain-requires c).After-increased-sum

pub carried-requires : goal.carried-requires
carried-requires c = limit-asks (goal.at.carried-requires c).After-limited-y

pub unless_limited-requires : goal.unless_limited-requires
unless_limited-requires c = limit-asks (goal.at.unless_limited-requires c).After-limited-y

pub returns : goal.returns
unfolding turned section_frame worked of_bits of_int
returns c =
    λ i.
    record {
      section =
          record {
            y1 = y-is l i;
            y2 = (n.requires.section_carries i).y1;
            gain = c.moved-gain.ensures i;
            remainder = (c.carried.ensures ∙ carried-taken l.before) i;
          };
      tally =
          record {
            total = total-is i;
            flag = (c.unless_limited.ensures ∙ ap (λ (z : ℤ). unless_limited z n.args.tally.flag (float (pos 1))) (rounded-whole l.before)) i;
          };
    }
  where
    l : After-limited-y
    l = (goal.at.returns c).After-limited-y

    n : After-increased-sum
    n = a l.before

    y : ℤ
    y = (worked (S n)).y

    total-is : add binary64 n.args.tally.total (mul binary64 c.moved-gain.result.present l.limited-y.result) ≡ float (whole_of n.args.tally.total +ℤ gain n *ℤ y)
    total-is =
        (λ i. add binary64 (n.requires.total_carries.whole i) (mul binary64 (c.moved-gain.ensures i).present (y-is l i)))
        ∙ add_whole binary64 (whole_of n.args.tally.total) (le_trans n.requires.total_carries.small (lit≤ tt))
        (mul_whole binary64 (of_whole binary64 (gain n) (le_trans (gain-size n) (lit≤ tt))) (of_whole binary64 y (le_trans (worked-size (S n)) (lit≤ tt)))
        (le_trans (product_sized (gain n) y (gain-size n) (worked-size (S n))) (lit≤ tt)))

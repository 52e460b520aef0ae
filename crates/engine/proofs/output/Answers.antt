-- `engine::output` meets its contract: T over 2^23 and V × m over 2^31 are rounded, the latter is limited, and cast without loss.
use mathlib.Core.Path.{◌≡◌, refl, sym, ap, ◌∙◌, subst}
use Prim.Native.Nat.{◌*◌, ◌^◌, ◌≤◌, ◌<◌}
use native.Mathlib.Nat.{le_trans, le_of_lt, lt_of_le_of_lt}
use lib.Dec.{T, lit≤, lit<}
use lib.IntN.{ℤ, nat_abs, ◌*ℤ◌}
use lib.Signed.{le_z_yes}
use lib.Ieee.{Float, binary64, prec, of_bits, of_int, mul, in_signed, to_signed}
use lib.Ieee.Casts.{to_signed_in}
use mir.Syntax.{w64}
use mir.Facts.{to_z-of_z}
use Rattle.integers.proofs.Parts.{linear}
use Rattle.integers.proofs.Abs.{abs_le}
use Rattle.integers.proofs.Machine.{product_sized}
use Rattle.rounding.specs.Rounding.{nearest, limit}
use Rattle.rounding.proofs.Nearest.{nearest-size}
use Rattle.rounding.proofs.Limit.{limit-low, limit_high}
use Rattle.words.specs.Words.{word_size}
use Rattle.floats.specs.Whole.{float, whole_of}
use Rattle.floats.proofs.Casts.{int_back}
use Rattle.floats.proofs.Quotient.{quotient_roundable, quotient_whole}
use Rattle.floats.proofs.WholeNumbers.{Whole, of_whole, mul_whole}
use Rattle.unit.specs.Frame.{sample_low, sample_high, output}
use Rattle.engine.specs.Floats.{largest}
use Rattle.engine.proofs.Carry.{carries_whole, limited_is}
use Rattle.engine.proofs.output.Goals.{After-limited-heard, After-nearest_whole-m, After-nearest_whole-rounded, Start}
use Rattle.engine.proofs.output.Goals as goal

-- the ends of a sample
abbrev lowest : Float
lowest = of_bits binary64 13898108450065350656

abbrev highest : Float
highest = of_bits binary64 4674736138332667904

lowest-is : lowest ≡ float sample_low
unfolding of_bits of_int
lowest-is = refl

highest-is : highest ≡ float sample_high
unfolding of_bits of_int
highest-is = refl

module _ (s : Start) where
  abbrev T' : ℤ
  T' = whole_of s.args.total

  total-below : nat_abs T' < 2 ^ prec binary64
  total-below = lt_of_le_of_lt s.requires.total_carries.small (lit< tt)

  total-whole : Whole s.args.total T'
  total-whole = carries_whole s.args.total (lit≤ tt) s.requires.total_carries

  abbrev m : ℤ
  m = nearest T' 23

  m-size : nat_abs m ≤ 11 * word_size
  m-size = nearest-size T' 23 (11 * word_size) (le_trans s.requires.total_carries.small (lit≤ tt))

  abbrev product : ℤ
  product = whole_of s.args.volume *ℤ m

  product-size : nat_abs product ≤ word_size * (11 * word_size)
  product-size = product_sized (whole_of s.args.volume) m s.requires.volume_carries.small m-size

  product-below : nat_abs product < 2 ^ prec binary64
  product-below = lt_of_le_of_lt product-size (lit< tt)

  abbrev r : ℤ
  r = nearest product 31

  r-size : nat_abs r ≤ largest
  r-size = le_trans (nearest-size product 31 (2 ^ 31) (le_trans product-size (lit≤ tt))) (lit≤ tt)

  abbrev z : ℤ
  z = limit sample_low sample_high r

  z-size : nat_abs z ≤ 32768
  z-size = abs_le z 32768 (limit-low sample_low sample_high (le_z_yes tt) r) (omega (linear, limit_high sample_low sample_high (le_z_yes tt) r))

  back : T (in_signed binary64 63 (float z)) × (to_signed 63 (float z) ≡ z)
  back = int_back binary64 63 z (le_trans z-size (lit≤ tt)) (lt_of_le_of_lt z-size (lit< tt))

pub nearest_whole-m-requires : goal.nearest_whole-m-requires
unfolding of_bits
nearest_whole-m-requires c = quotient_roundable 23 c.args.total (T' c) (lit≤ tt) (lit≤ tt) (total-whole c) (total-below c)

-- ---- m

module _ (c : After-nearest_whole-m) where
  mix-is : c.nearest_whole-m.result ≡ float (m c.before)
  unfolding of_bits
  mix-is =
      c.nearest_whole-m.ensures
      ∙ ap float (quotient_whole 23 c.before.args.total (T' c.before) (lit≤ tt) (lit≤ tt) (total-whole c.before) (total-below c.before))

  product_is : Whole (mul binary64 c.before.args.volume c.nearest_whole-m.result) (product c.before)
  product_is =
      subst (λ (x : Float). Whole (mul binary64 c.before.args.volume x) (product c.before)) (sym mix-is)
      (mul_whole binary64 (carries_whole c.before.args.volume (lit≤ tt) c.before.requires.volume_carries) (of_whole binary64 (m c.before) (le_trans (m-size c.before) (lit≤ tt))) (le_of_lt (product-below c.before)))

pub nearest_whole-rounded-requires : goal.nearest_whole-rounded-requires
unfolding of_bits
nearest_whole-rounded-requires c =
    quotient_roundable 31 (mul binary64 c.before.args.volume c.nearest_whole-m.result) (product c.before) (lit≤ tt) (lit≤ tt) (product_is c) (product-below c.before)

-- ---- rounded

module _ (c : After-nearest_whole-rounded) where
  abbrev s : Start
  s = c.before.before

  rounded-is : c.nearest_whole-rounded.result ≡ float (r s)
  unfolding of_bits
  rounded-is =
      c.nearest_whole-rounded.ensures
      ∙ ap float (quotient_whole 31 (mul binary64 s.args.volume c.before.nearest_whole-m.result) (product s) (lit≤ tt) (lit≤ tt) (product_is c.before) (product-below s))

heard-is : (c : After-limited-heard) → c.limited-heard.result ≡ float (z (s c.before))
heard-is c =
    c.limited-heard.ensures
    ∙ limited_is lowest highest c.before.nearest_whole-rounded.result sample_low sample_high (r (s c.before)) lowest-is highest-is (rounded-is c.before) (lit≤ tt) (lit≤ tt) (r-size (s c.before)) (le_z_yes tt)

pub float_to_int-result : goal.float_to_int-result
float_to_int-result c = subst (λ (x : Float). T (in_signed binary64 63 x)) (sym (heard-is c.before)) (back (s c.before.before)).0

pub returns : goal.returns
unfolding output
returns c =
    to_z-of_z {w = w64} (record { sfits = to_signed_in 63 c.before.limited-heard.result })
    ∙ ap (to_signed 63) (heard-is c.before)
    ∙ (back (s c.before.before)).1

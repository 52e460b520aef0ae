-- Every float of a pair of fit channels is a number of at most 2^23 in size.
use mathlib.Core.Path.{◌≡◌, refl, sym, subst}
use mathlib.Core.List.{List}
use Prim.Native.Nat.{ℕ, zero, suc, ◌+◌, ◌*◌, ◌-◌, ◌/◌, ◌%◌, ◌≤◌, ◌<◌}
use native.Mathlib.Nat.{le_trans, div-add-mod', mod-lt}
use native.Mathlib.Omega.{arith}
use lib.Dec.{lit≤, ltb}
use lib.IntN.{nat_abs}
use mathlib.Core.Bool.{Bool, true, false}
use borrow.Author.Tests.{ltb-true, ltb-false}
use lib.ListN.{length}
use lib.Ieee.{Float}
use Rattle.lists.proofs.Tabulate.{each_at}
use Rattle.words.specs.Words.{word_size, is_word}
use Rattle.words.proofs.Laws.{word_size_lem}
use Rattle.bands.specs.Bands.{band_count}
use Rattle.floats.specs.Whole.{whole_of}
use Rattle.unit.specs.Fit.{is_remainder, SectionFit, ChannelFit}
use Rattle.unit.proofs.Ranges.{input_size, flag-size, remainder-size}
use Rattle.engine.specs.Floats.{Carries, float_at, WholeFloats}
use Rattle.engine.specs.Layout.{section_floats, x1_place, x2_place, flag_place, pair_floats, first_side, second_side, section_at_side, channel_at_side}

module _ (l : List Float) (size : length l ≡ pair_floats) (whole : WholeFloats l) (first : ChannelFit (channel_at_side l first_side)) (second : ChannelFit (channel_at_side l second_side)) where
  abbrev Small : ℕ → Type 0
  Small j = nat_abs (whole_of (float_at l j)) ≤ word_size

  -- float r of both sections of band b
  module _ (b : ℕ) (h : b < band_count) where
    one : SectionFit (section_at_side l first_side b)
    one = each_at SectionFit band_count (section_at_side l first_side) first.sections b h

    two : SectionFit (section_at_side l second_side b)
    two = each_at SectionFit band_count (section_at_side l second_side) second.sections b h

    word_small : (j k : ℕ) → j ≡ k → is_word (whole_of (float_at l j)) ≡ true → Small k
    word_small j k e w = subst Small e (word_size_lem (whole_of (float_at l j)) w)

    remainder_small : (j k : ℕ) → j ≡ k → is_remainder (whole_of (float_at l j)) ≡ true → Small k
    remainder_small j k e w = subst Small e (le_trans (remainder-size (whole_of (float_at l j)) w) (lit≤ tt))

    section_small : (r k : ℕ) → k ≡ section_floats * b + r → r < section_floats → Small k
    section_small zero k e g = word_small (section_floats * b) k (omega arith) one.y1
    section_small (suc zero) k e g = word_small (section_floats * b + 1) k (omega arith) two.y1
    section_small (suc (suc zero)) k e g = word_small (section_floats * b + 2) k (omega arith) one.y2
    section_small (suc (suc (suc zero))) k e g = word_small (section_floats * b + 1 + 2) k (omega arith) two.y2
    section_small (suc (suc (suc (suc zero)))) k e g = word_small (section_floats * b + 4) k (omega arith) one.present
    section_small (suc (suc (suc (suc (suc zero))))) k e g = word_small (section_floats * b + 1 + 4) k (omega arith) two.present
    section_small (suc (suc (suc (suc (suc (suc zero)))))) k e g = word_small (section_floats * b + 6) k (omega arith) one.target
    section_small (suc (suc (suc (suc (suc (suc (suc zero))))))) k e g = word_small (section_floats * b + 1 + 6) k (omega arith) two.target
    section_small (suc (suc (suc (suc (suc (suc (suc (suc zero)))))))) k e g = remainder_small (section_floats * b + 8) k (omega arith) one.remainder
    section_small (suc (suc (suc (suc (suc (suc (suc (suc (suc zero))))))))) k e g = remainder_small (section_floats * b + 1 + 8) k (omega arith) two.remainder
    section_small (suc (suc (suc (suc (suc (suc (suc (suc (suc (suc r)))))))))) k e g = absurd (omega arith)

  -- x1, x2 and the flag
  head_small : (r k : ℕ) → k ≡ x1_place + r → r < pair_floats - x1_place → Small k
  head_small zero k e g = subst Small (sym e) (input_size (whole_of (float_at l x1_place)) first.x1)
  head_small (suc zero) k e g = subst Small (sym e) (input_size (whole_of (float_at l (x1_place + 1))) second.x1)
  head_small (suc (suc zero)) k e g = subst Small (sym e) (input_size (whole_of (float_at l x2_place)) first.x2)
  head_small (suc (suc (suc zero))) k e g = subst Small (sym e) (input_size (whole_of (float_at l (x2_place + 1))) second.x2)
  head_small (suc (suc (suc (suc zero)))) k e g = subst Small (sym e) (flag-size (whole_of (float_at l flag_place)) first.flag)
  head_small (suc (suc (suc (suc (suc zero))))) k e g = subst Small (sym e) (flag-size (whole_of (float_at l (flag_place + 1))) second.flag)
  head_small (suc (suc (suc (suc (suc (suc r)))))) k e g = absurd (omega arith)

  small : (j : ℕ) → j < pair_floats → Small j
  small j h = go (ltb j x1_place) refl
    where
      divided : j / section_floats * section_floats + j % section_floats ≡ j
      divided = div-add-mod' j section_floats

      go : (t : Bool) → ltb j x1_place ≡ t → Small j
      go true t =
          section_small (j / section_floats) (omega (arith, ltb-true j x1_place t, divided)) (j % section_floats) j (omega (arith, divided))
          (mod-lt j (lit≤ tt))
      go false t = head_small (j - x1_place) j (omega (arith, ltb-false j x1_place t)) (omega (arith, ltb-false j x1_place t))

  pub pair_carries : (j : ℕ) → j < pair_floats → Carries (float_at l j) word_size
  pair_carries j h = record { whole = whole j (omega (arith, size)); small = small j h }

-- Each kind of line is a sound form: it carries what is fit, and nothing else.
use mathlib.Core.Path.{◌≡◌, refl, sym}
use mathlib.Core.Bool.{Bool, true, false}
use mathlib.Core.List.{List, [], ◌∷◌}
use Prim.Native.Nat.{ℕ}
use native.Mathlib.Omega.{arith}
use lib.IntN.{ℤ, pos}
use Rattle.integers.proofs.Parts.{linear}
use Rattle.integers.proofs.Abs.{abs_le}
use Rattle.lists.specs.Lists.{Each}
use Rattle.rounding.specs.Rounding.{within}
use Rattle.rounding.proofs.Limit.{within_bounds}
use Rattle.refusals.proofs.Laws.{never}
use Rattle.words.specs.Words.{is_word}
use Rattle.words.proofs.Laws.{word_size_lem}
use Rattle.bands.specs.Bands.{band_of}
use Rattle.bands.proofs.Laws.{Accepts, band_sizes}
use Rattle.unit.specs.declared.BandSection.{BandSection}
use Rattle.unit.specs.Fit.{is_volume, is_input, is_flag, is_remainder, is_plain, VolumeFit, BandFit, SectionFit, Plain}
use Rattle.unit.proofs.Ranges.{input_size, volume_size, remainder-size, plain_zero}
use Rattle.fields.proofs.Laws.{Short}
use Rattle.forms.specs.Line.{alone}
use Rattle.forms.proofs.Sound.{Sound, seen_sound}
use Rattle.forms.proofs.Line.{InRanges, Passes, line_sound}
use Rattle.sheet.specs.Lines.{volume_letter, volume_ranges, volume_row, volume_of_row, volume_form, band_ranges, band_row, band_of_row, band_joint, band_form, head_ranges, head_form, section_letter, section_ranges, section_row, section_of_row, section_form}

-- ---- each number has at most eight digits

ranges_short : (ranges : List (ℤ → Bool)) → Each (λ (range : ℤ → Bool). (n : ℤ) → range n ≡ true → Short n) ranges → (numbers : List ℤ) → InRanges ranges numbers → Each Short numbers
ranges_short [] s [] h = tt
ranges_short [] s (n ∷ numbers) h = absurd h
ranges_short (range ∷ ranges) s [] h = absurd h
ranges_short (range ∷ ranges) s (n ∷ numbers) h = (s.0 n h.0, ranges_short ranges s.1 numbers h.1)

volume_short : (n : ℤ) → is_volume n ≡ true → Short n
volume_short n e = omega (arith, volume_size n e)

input_short : (n : ℤ) → is_input n ≡ true → Short n
input_short n e = omega (arith, input_size n e)

word_short : (n : ℤ) → is_word n ≡ true → Short n
word_short n e = omega (arith, word_size_lem n e)

remainder_short : (n : ℤ) → is_remainder n ≡ true → Short n
remainder_short n e = omega (arith, remainder-size n e)

flag_short : (n : ℤ) → is_flag n ≡ true → Short n
unfolding is_flag
flag_short n e =
    omega (arith, abs_le n 1 (omega (linear, (within_bounds (pos 0) (pos 1) n e).0)) (omega (linear, (within_bounds (pos 0) (pos 1) n e).1)))

-- ---- V

volume_here : (row : List ℤ) → Passes volume_ranges alone row → VolumeFit (volume_of_row row) × (volume_row (volume_of_row row) ≡ row)
volume_here (a ∷ b ∷ []) p = (record { present = p.inside.0; target = p.inside.1.0 }, refl)
volume_here [] p = absurd p.inside
volume_here (a ∷ []) p = absurd p.inside.1
volume_here (a ∷ b ∷ c ∷ row) p = absurd p.inside.1.1

pub volume_sound : Sound volume_form VolumeFit
volume_sound =
    seen_sound VolumeFit volume_of_row volume_row
    (line_sound volume_letter volume_ranges alone (λ row p. ranges_short volume_ranges (volume_short, (volume_short, tt)) row p.inside))
    (λ v h. (record { inside = (h.present, (h.target, tt)); accepted = refl }, refl))
    volume_here

-- ---- C

band_short : (row : List ℤ) → Passes band_ranges band_joint row → Each Short row
band_short (a ∷ b ∷ g ∷ []) p = (
  omega (arith, sizes.alpha_size),
  (omega (arith, sizes.beta_size), (omega (arith, sizes.gamma_size), tt)),
)
  where
    sizes : Accepts (band_of a b g)
    sizes = band_sizes (band_of a b g) p.accepted
band_short [] p = absurd p.inside
band_short (a ∷ []) p = absurd p.inside.1
band_short (a ∷ b ∷ []) p = absurd p.inside.1.1
band_short (a ∷ b ∷ g ∷ n ∷ row) p = absurd p.inside.1.1.1

band_here : (row : List ℤ) → Passes band_ranges band_joint row → BandFit (band_of_row row) × (band_row (band_of_row row) ≡ row)
band_here (a ∷ b ∷ g ∷ []) p = (p.accepted, refl)
band_here [] p = absurd p.inside
band_here (a ∷ []) p = absurd p.inside.1
band_here (a ∷ b ∷ []) p = absurd p.inside.1.1
band_here (a ∷ b ∷ g ∷ n ∷ row) p = absurd p.inside.1.1.1

pub band_sound : (letter : ℕ) → Sound (band_form letter) BandFit
band_sound letter =
    seen_sound BandFit band_of_row band_row (line_sound letter band_ranges band_joint band_short)
    (λ band h. (record { inside = (refl, (refl, (refl, tt))); accepted = h }, refl))
    band_here

-- ---- L, R

pub head_sound : (letter : ℕ) → Sound (head_form letter) (Passes head_ranges alone)
head_sound letter = line_sound letter head_ranges alone (λ row p. ranges_short head_ranges (input_short, (input_short, (flag_short, tt))) row p.inside)

-- ---- S

-- a section that is fit, and in a line without the fifth field plain
pub record SectionFits (fifth : Bool) (s : BandSection) : Type 0 where
  pub fit : SectionFit s
  pub plain : fifth ≡ false → Plain s

section_here : (fifth : Bool) (row : List ℤ) → Passes (section_ranges fifth) alone row → SectionFits fifth (section_of_row row) × (section_row fifth (section_of_row row) ≡ row)
unfolding is_remainder is_plain within
section_here true (a ∷ b ∷ c ∷ d ∷ e ∷ []) p = (
  record {
    fit = record { y1 = p.inside.0; y2 = p.inside.1.0; present = p.inside.1.1.0; target = p.inside.1.1.1.0; remainder = p.inside.1.1.1.1.0 };
    plain = λ q. never true q refl;
  },
  refl,
)
section_here false (a ∷ b ∷ c ∷ d ∷ []) p = (
  record {
    fit = record { y1 = p.inside.0; y2 = p.inside.1.0; present = p.inside.1.1.0; target = p.inside.1.1.1.0; remainder = refl };
    plain = λ q. refl;
  },
  refl,
)
section_here fifth [] p = absurd p.inside
section_here fifth (a ∷ []) p = absurd p.inside.1
section_here fifth (a ∷ b ∷ []) p = absurd p.inside.1.1
section_here fifth (a ∷ b ∷ c ∷ []) p = absurd p.inside.1.1.1
section_here true (a ∷ b ∷ c ∷ d ∷ []) p = absurd p.inside.1.1.1.1
section_here true (a ∷ b ∷ c ∷ d ∷ e ∷ n ∷ row) p = absurd p.inside.1.1.1.1.1
section_here false (a ∷ b ∷ c ∷ d ∷ n ∷ row) p = absurd p.inside.1.1.1.1

section_there : (fifth : Bool) (s : BandSection) → SectionFits fifth s → Passes (section_ranges fifth) alone (section_row fifth s) × (section_of_row (section_row fifth s) ≡ s)
section_there true s h = (
  record { inside = (h.fit.y1, (h.fit.y2, (h.fit.present, (h.fit.target, (h.fit.remainder, tt))))); accepted = refl },
  refl,
)
section_there false s h = (
  record { inside = (h.fit.y1, (h.fit.y2, (h.fit.present, (h.fit.target, tt)))); accepted = refl },
  λ i. record { y1 = s.y1; y2 = s.y2; gain = s.gain; remainder = sym (plain_zero s (h.plain refl)) i },
)

section_short : (fifth : Bool) (row : List ℤ) → Passes (section_ranges fifth) alone row → Each Short row
section_short true row p = ranges_short (section_ranges true) (word_short, (word_short, (word_short, (word_short, (remainder_short, tt))))) row p.inside
section_short false row p = ranges_short (section_ranges false) (word_short, (word_short, (word_short, (word_short, tt)))) row p.inside

pub section_sound : (fifth : Bool) → Sound (section_form fifth) (SectionFits fifth)
section_sound fifth =
    seen_sound (SectionFits fifth) section_of_row (section_row fifth)
    (line_sound section_letter (section_ranges fifth) alone (section_short fifth)) (section_there fifth) (section_here fifth)

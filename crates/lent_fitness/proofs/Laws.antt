-- The sections of a channel are fit where all their numbers are words and their remainders are in range, tested one after the other.
use mathlib.Core.Path.{◌≡◌, refl, sym, ap, ap₂, ◌∙◌}
use mathlib.Core.Bool.{Bool, true, false, ◌&&◌, and_assoc, and-false}
use mathlib.Core.List.{List, [], ◌∷◌}
use Prim.Native.Nat.{◌*◌, ◌≤◌}
use lib.IntN.{ℤ, pos, neg_ℤ}
use lib.ListN.{length, take, drop}
use Rattle.integers.proofs.Parts.{linear}
use Rattle.lists.specs.Lists.{joined}
use Rattle.std.specs.List.{list_all}
use Rattle.rounding.proofs.Limit.{within_bounds, bounds_within}
use Rattle.words.specs.Words.{word_low, word_high, is_word}
use Rattle.bands.specs.Bands.{band_count}
use Rattle.unit.specs.declared.BandSection.{BandSection}
use Rattle.unit.specs.Sizes.{remainder_size}
use Rattle.unit.specs.Fit.{is_remainder, section_fits}
use Rattle.numbers.specs.Layout.{head_size, section_size, channel_size, section_numbers, channel_of}
use Rattle.numbers.proofs.Laws.{sections_numbers}

-- four tests in a row, told by the results of the code's tests
pub in_row : {a b c d p q r s : Bool} → p ≡ a → q ≡ b → r ≡ c → s ≡ d → p && q && r && s ≡ a && (b && (c && d))
in_row {a} {b} {c} {d} e f g h = ap₂ ◌&&◌ (ap₂ ◌&&◌ (ap₂ ◌&&◌ e f) g) h ∙ and_assoc (a && b) c d ∙ and_assoc a b (c && d)

-- a remainder is a word
remainder_word : (v : ℤ) → is_remainder v ≡ true → is_word v ≡ true
unfolding is_remainder
remainder_word v e =
    let bounds = within_bounds (neg_ℤ (pos remainder_size)) (pos remainder_size) v e in
    bounds_within word_low word_high v (omega (linear, bounds.0)) (omega (linear, bounds.1))

-- the tests of words ahead of those of remainders, or section by section: a, b, c, d and `word` are those of a section's numbers
regroup : (a b c d word remainder words remainders : Bool) → (remainder ≡ true → word ≡ true) → a && (b && (c && (d && (word && words)))) && (remainder && remainders) ≡ a && (b && (c && (d && remainder))) && (words && remainders)
regroup false b c d w r ws rs h = refl
regroup true false c d w r ws rs h = refl
regroup true true false d w r ws rs h = refl
regroup true true true false w r ws rs h = refl
regroup true true true true w false ws rs h = and-false (w && ws)
regroup true true true true w true ws rs h = rw (h refl)

-- the test of a section's remainder
abbrev pub remainder_fits : BandSection → Bool
remainder_fits s = is_remainder s.remainder

-- all sections
words_and_remainders : (ss : List BandSection) → list_all is_word (joined section_numbers ss) && list_all remainder_fits ss ≡ list_all section_fits ss
words_and_remainders [] = refl
words_and_remainders (s ∷ ss) =
    regroup (is_word s.y1) (is_word s.y2) (is_word s.gain.present) (is_word s.gain.target) (is_word s.remainder)
    (is_remainder s.remainder) (list_all is_word (joined section_numbers ss)) _ (remainder_word s.remainder)
    ∙ ap (λ (t : Bool). section_fits s && t) (words_and_remainders ss)

-- ten sections of a channel's numbers
pub sections_fit_lem : (l : List ℤ) → channel_size ≤ length l → list_all is_word (take (section_size * band_count) (drop head_size l)) && list_all remainder_fits (channel_of l).sections ≡ list_all section_fits (channel_of l).sections
sections_fit_lem l h =
    ap (λ (m : List ℤ). list_all is_word m && list_all remainder_fits (channel_of l).sections) (sym (sections_numbers l band_count h))
    ∙ words_and_remainders (channel_of l).sections

-- The laws of the unit's flat numbers: 138 numbers are those of the unit that they stand for.
use mathlib.Core.Path.{◌≡◌, refl, sym, ap, ap₂, ◌∙◌}
use mathlib.Core.List.{List, ◌++◌, append-nil}
use Prim.Native.Nat.{ℕ, zero, suc, ◌+◌, ◌*◌, ◌≤◌}
use native.Mathlib.Omega.{arith}
use lib.IntN.{ℤ, pos}
use lib.ListN.{length, take, drop, length-drop}
use lib.Seq.{take-add, take_all, drop-drop}
use Rattle.lists.specs.Lists.{tabulate, joined}
use Rattle.lists.proofs.Parts.{take-two, take_three, take_five, piece}
use Rattle.lists.proofs.Joined.{joined_snoc}
use Rattle.bands.specs.Bands.{band_count, band_at, set_size}
use Rattle.numbers.specs.Layout.{head_size, section_size, channel_size, unit_size, bands_place, left_place, right_place, band_numbers, section_numbers, channel_numbers, numbers_of, place, section_at, channel_of, unit_of}

module _ (l : List ℤ) where
  -- ---- the numbers of the bands and of a channel

  bands_numbers : (n : ℕ) → 3 * n ≤ length l → joined band_numbers (tabulate n (band_at l)) ≡ take (3 * n) l
  bands_numbers zero h = refl
  bands_numbers (suc n) h =
      joined_snoc band_numbers (tabulate n (band_at l)) (band_at l n)
      ∙ ap₂ ◌++◌ (bands_numbers n (omega arith)) (sym (take_three (pos 0) l (3 * n) (omega arith)))
      ∙ sym (take-add (3 * n) 3 l)
      ∙ ap (λ (k : ℕ). take k l) more
    where
      more : 3 * n + 3 ≡ 3 * suc n
      more = omega arith

  pub sections_numbers : (n : ℕ) → place n ≤ length l → joined section_numbers (tabulate n (section_at l)) ≡ take (section_size * n) (drop head_size l)
  sections_numbers zero h = refl
  sections_numbers (suc n) h =
      joined_snoc section_numbers (tabulate n (section_at l)) (section_at l n)
      ∙ ap₂ ◌++◌ (sections_numbers n (omega arith)) five
      ∙ sym (take-add (section_size * n) section_size (drop head_size l))
      ∙ ap (λ (k : ℕ). take k (drop head_size l)) more
    where
      more : section_size * n + section_size ≡ section_size * suc n
      more = omega arith

      behind : place n ≡ head_size + section_size * n
      behind = omega arith

      five : section_numbers (section_at l n) ≡ take section_size (drop (section_size * n) (drop head_size l))
      five =
          sym (take_five (pos 0) l (place n) (omega arith))
          ∙ ap (take section_size) (ap (λ (k : ℕ). drop k l) behind ∙ sym (drop-drop (section_size * n) head_size l))

  channel_numbers_lem : channel_size ≤ length l → channel_numbers (channel_of l) ≡ take channel_size l
  channel_numbers_lem h =
      ap₂ ◌++◌ (sym (take_three (pos 0) l 0 (omega arith))) (sections_numbers band_count (omega arith)) ∙ sym (take-add head_size (section_size * band_count) l)

-- ---- 138 numbers are those of their unit

pub numbers_of_unit : (l : List ℤ) → length l ≡ unit_size → numbers_of (unit_of l) ≡ l
unfolding numbers_of unit_of
numbers_of_unit l h =
    ap₂ ◌++◌ (sym (take-two (pos 0) l 0 (omega arith)))
    (ap₂ ◌++◌ (bands_numbers (drop bands_place l) band_count (omega (arith, length-drop bands_place l)))
    (ap₂ ◌++◌ (channel_numbers_lem (drop left_place l) (omega (arith, length-drop left_place l)))
    (append-nil (channel_numbers (channel_of (drop right_place l)))
    ∙ channel_numbers_lem (drop right_place l) (omega (arith, length-drop right_place l))
    ∙ take_all channel_size (drop right_place l) (omega (arith, length-drop right_place l)))
    ∙ piece (pos 0) l left_place channel_size right_place refl)
    ∙ piece (pos 0) l bands_place set_size left_place refl)
    ∙ piece (pos 0) l 0 2 bands_place refl

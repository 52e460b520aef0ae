-- After a store the lent numbers are those of the unit with the volume, its own bands, and the channels of the pair.
use mathlib.Core.Path.{◌≡◌, sym, ap, ◌∙◌}
use mathlib.Core.List.{List, [], ◌∷◌}
use Prim.Native.Nat.{ℕ, ◌+◌, ◌*◌, ◌<◌}
use native.Mathlib.Omega.{arith}
use lib.Dec.{lit≤}
use lib.IntN.{ℤ, pos}
use lib.ListN.{length, drop, set, length-set}
use lib.Seq.{get_or-set_same, get_or-set_other, get_or-drop}
use lib.Ieee.{Float}
use Rattle.lists.proofs.Tabulate.{tabulate_cong}
use Rattle.bands.specs.Bands.{band_count, set_size}
use Rattle.floats.specs.Whole.{whole_of}
use Rattle.unit.specs.Cleared.{bands_of}
use Rattle.engine.specs.declared.FloatLevel.{FloatLevel}
use Rattle.engine.specs.Layout.{x1_place}
use Rattle.numbers.specs.Layout.{head_size, section_size, bands_place, left_place, right_place, unit_size, numbers_of, unit_of}
use Rattle.numbers.proofs.Laws.{numbers_of_unit}
use Rattle.lent_packing.specs.Runs.{number_at, TakeRunsGives}
use Rattle.lent_packing.specs.Store.{unit_stored}
use Rattle.lent_packing.proofs.Channels.{first_same, second_same, stored_alike, stored_ahead}

-- the numbers with the volume stored
abbrev pub with_volume : List ℤ → ℤ → ℤ → List ℤ
with_volume numbers present target = set (set numbers 0 present) 1 target

module _ (numbers : List ℤ) (size : length numbers ≡ unit_size) (volume : FloatLevel) (pair : List Float) (present target : ℤ) (present-is : present ≡ whole_of volume.present) (target_is : target ≡ whole_of volume.target) where
  one : List ℤ
  one = set numbers 0 present

  module _ (between after : List ℤ) (g : TakeRunsGives 0 (left_place + head_size) (right_place + head_size) (section_size * band_count) (with_volume numbers present target) pair between) (h : TakeRunsGives x1_place left_place right_place head_size between pair after) where
    ahead : (j : ℕ) → j < left_place → number_at after j ≡ number_at (with_volume numbers present target) j
    ahead = stored_ahead pair (with_volume numbers present target) between after g h

    present_stored : number_at after 0 ≡ whole_of volume.present
    unfolding one
    present_stored =
        ahead 0 (lit≤ tt)
        ∙ get_or-set_other one 1 0 target (pos 0) (λ e. omega arith)
        ∙ get_or-set_same numbers 0 present (pos 0) (omega (arith, size))
        ∙ present-is

    target_stored : number_at after 1 ≡ whole_of volume.target
    unfolding one
    target_stored =
        ahead 1 (lit≤ tt)
        ∙ get_or-set_same one 1 target (pos 0) (omega (arith, size, length-set numbers 0 present))
        ∙ target_is

    coefficient_kept : (k : ℕ) → k < set_size → number_at (drop bands_place after) k ≡ number_at (drop bands_place numbers) k
    unfolding one
    coefficient_kept k e =
        get_or-drop bands_place after k (pos 0)
        ∙ ahead (bands_place + k) (omega arith)
        ∙ get_or-set_other one 1 (bands_place + k) target (pos 0) (λ z. omega arith)
        ∙ get_or-set_other numbers 0 (bands_place + k) present (pos 0) (λ z. omega arith)
        ∙ sym (get_or-drop bands_place numbers k (pos 0))

    bands_kept : bands_of (drop bands_place after) ≡ bands_of (drop bands_place numbers)
    bands_kept =
        tabulate_cong band_count
        (λ b e i.
        record {
          alpha = coefficient_kept (3 * b) (omega arith) i;
          beta = coefficient_kept (3 * b + 1) (omega arith) i;
          gamma = coefficient_kept (3 * b + 2) (omega arith) i;
        })

    unit_is : unit_of after ≡ unit_stored (unit_of numbers).bands volume pair
    unfolding unit_of
    unit_is =
        λ i.
        record {
          volume = record { present = present_stored i; target = target_stored i };
          bands = bands_kept i;
          channels = sym (first_same pair after (stored_alike pair (with_volume numbers present target) between after g h)) i ∷ sym (second_same pair after (stored_alike pair (with_volume numbers present target) between after g h)) i ∷ [];
        }

    pub stored : after ≡ numbers_of (unit_stored (unit_of numbers).bands volume pair)
    stored = sym (numbers_of_unit after h.size) ∙ ap numbers_of unit_is

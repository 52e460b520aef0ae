-- "Figures to check (starred ones are proved)": what the definitions give, and what docs/SPECIFICATION.md prints.
-- Definitions only.
use Rattle.std.specs.Prelude.{true, false, List, [], ◌∷◌, ℕ, zero, suc, ◌+◌, ◌^◌, ℤ, pos, negsuc, neg_ℤ, ◌+ℤ◌, ◌*ℤ◌, get_or}
use Rattle.std.specs.Float.{fin}
use Rattle.bands.specs.Bands.{band_at}
use Rattle.bands.specs.House.{house_set}
use Rattle.section.specs.Equation.{sum_shift, flag, worked}
use Rattle.section.specs.Step.{cleared_section, results_over, remainders_over}
use Rattle.unit.specs.declared.BandSection.{BandSection}
use Rattle.unit.specs.declared.Unit.{Unit}
use Rattle.unit.specs.Cleared.{cleared_band_section, cleared_channel, bands_of}
use Rattle.unit.specs.Frame.{feeds_back, section_frame, unit_frame, heard}
use Rattle.settings.specs.declared.Setting.TheVariants.{Factor}
use Rattle.settings.specs.Settings.{target_of}

pub record Figure : Type 0 where
  pub given : ℤ
  pub printed : ℤ

infix 20 ◌is◌
abbrev pub ◌is◌ : ℤ → ℤ → Figure
given is printed = record { given = given; printed = printed }

-- y of S
abbrev y_of : ℤ → ℤ
y_of S = (worked S).y

-- what the rounding takes of S
abbrev left_of : ℤ → ℤ
left_of S = (worked S).remainder

-- whether a section limits where the rounded number is r: S is 2^22 × r
abbrev limits : ℤ → ℤ
limits r = pos (flag (worked (pos (2 ^ sum_shift) *ℤ r)).limited)

-- results and remainders of the house set's 31 Hz band, cleared: from x = 256,000, 256,000, 0
abbrev inputs : List ℤ
inputs = pos 256000 ∷ pos 256000 ∷ pos 0 ∷ []

abbrev result : ℕ → ℤ
result n = get_or (results_over (cleared_section (band_at house_set 0)) inputs) n (pos 0)

abbrev remainder : ℕ → ℤ
remainder n = get_or (remainders_over (cleared_section (band_at house_set 0)) inputs) n (pos 0)

-- the 31 Hz section as band b of a cleared unit, after n frames with x = 256, 256, 0: x2 stands two places ahead of x
abbrev quiet_inputs : List ℤ
quiet_inputs = pos 0 ∷ pos 0 ∷ pos 256 ∷ pos 256 ∷ pos 0 ∷ []

abbrev quiet_after : ℕ → ℕ → BandSection
quiet_after b zero = cleared_band_section
quiet_after b (suc n) =
    section_frame (feeds_back b) (band_at house_set 0) (get_or quiet_inputs (n + 2) (pos 0)) (get_or quiet_inputs n (pos 0)) (quiet_after b n)

-- a cleared unit of one channel with the house set, its volume at v
abbrev unit_at : ℤ → Unit
unit_at v =
    record { volume = record { present = v; target = v }; bands = bands_of house_set; channels = cleared_channel ∷ [] }

-- what is heard of it on the sample s
abbrev sound_at : ℤ → ℤ → ℤ
sound_at v s = get_or (heard (unit_frame ((pos 256 *ℤ s) ∷ []) (unit_at v))) 0 (pos 0)

unfoldable pub starred : List Figure
starred =
    -- "S = 2,097,152 gives 0; 2,097,153 gives 1; 6,291,456 gives 2; -2,097,152 gives 0; -6,291,456 gives -2"
    (y_of (pos 2097152) is pos 0)
    ∷ (y_of (pos 2097153) is pos 1)
    ∷ (y_of (pos 6291456) is pos 2)
    ∷ (y_of (neg_ℤ (pos 2097152)) is pos 0)
    ∷ (y_of (neg_ℤ (pos 6291456)) is neg_ℤ (pos 2))
    -- "S = 2,097,152 leaves the remainder 2,097,152; 2,097,153 leaves -2,097,151; 6,291,456 leaves -2,097,152; -2,097,152 leaves -2,097,152;
    -- -6,291,456 leaves 2,097,152"
    ∷ (left_of (pos 2097152) is pos 2097152)
    ∷ (left_of (pos 2097153) is neg_ℤ (pos 2097151))
    ∷ (left_of (pos 6291456) is neg_ℤ (pos 2097152))
    ∷ (left_of (neg_ℤ (pos 2097152)) is neg_ℤ (pos 2097152))
    ∷ (left_of (neg_ℤ (pos 6291456)) is pos 2097152)
    -- "Rounded 8,388,607 and -8,388,608 don't limit; 8,388,608 and -8,388,609 do"
    ∷ (limits (pos 8388607) is pos 0)
    ∷ (limits (neg_ℤ (pos 8388608)) is pos 0)
    ∷ (limits (pos 8388608) is pos 1)
    ∷ (limits (neg_ℤ (pos 8388609)) is pos 1)
    -- "S = 2^22 × 8,388,608 + 5 limits, and leaves 5"
    ∷ (y_of (pos (2 ^ sum_shift) *ℤ pos 8388608 +ℤ pos 5) is pos 8388607)
    ∷ (left_of (pos (2 ^ sum_shift) *ℤ pos 8388608 +ℤ pos 5) is pos 5)
    -- "31 Hz, cleared, x = 256,000, 256,000, 0: y = 403, 1,208, 1,607"
    ∷ (result 0 is pos 403)
    ∷ (result 1 is pos 1208)
    ∷ (result 2 is pos 1607)
    -- "the remainders are 831,488, -331,287, 1,017,513"
    ∷ (remainder 0 is pos 831488)
    ∷ (remainder 1 is neg_ℤ (pos 331287))
    ∷ (remainder 2 is pos 1017513)
    -- "31 Hz as band 0 of a cleared unit, x = 256, 256, 0: y = 0, 1, 1; the remainders are 1,691,136, -812,032, 1,677,843"
    ∷ ((quiet_after 0 1).y1 is pos 0)
    ∷ ((quiet_after 0 2).y1 is pos 1)
    ∷ ((quiet_after 0 3).y1 is pos 1)
    ∷ ((quiet_after 0 1).remainder is pos 1691136)
    ∷ ((quiet_after 0 2).remainder is neg_ℤ (pos 812032))
    ∷ ((quiet_after 0 3).remainder is pos 1677843)
    -- "As band 4: y = 0, 0, 0; the remainders are 0, 0, 0"
    ∷ ((quiet_after 4 1).y1 is pos 0)
    ∷ ((quiet_after 4 2).y1 is pos 0)
    ∷ ((quiet_after 4 3).y1 is pos 0)
    ∷ ((quiet_after 4 1).remainder is pos 0)
    ∷ ((quiet_after 4 2).remainder is pos 0)
    ∷ ((quiet_after 4 3).remainder is pos 0)
    -- "Factor 1 - 2^-24: target 8,388,607. Factor -1: -8,388,608". The first is 16,777,215 × 2^-24
    ∷ (target_of 0 (Factor (fin false 16777215 (negsuc 23))) is pos 8388607)
    ∷ (target_of 0 (Factor (fin true 1 (pos 0))) is neg_ℤ (pos 8388608))
    -- "V = 419, gains 0, s = 32,767: output 2. V = 0: output 0"
    ∷ (sound_at (pos 419) (pos 32767) is pos 2)
    ∷ (sound_at (pos 0) (pos 32767) is pos 0)
    -- "The first two bands are 6,606, 4,181,093, 8,375,315 (31 Hz) and 13,191, 4,167,923, 8,361,900 (62 Hz)"
    ∷ (get_or house_set 0 (pos 0) is pos 6606)
    ∷ (get_or house_set 1 (pos 0) is pos 4181093)
    ∷ (get_or house_set 2 (pos 0) is pos 8375315)
    ∷ (get_or house_set 3 (pos 0) is pos 13191)
    ∷ (get_or house_set 4 (pos 0) is pos 4167923)
    ∷ (get_or house_set 5 (pos 0) is pos 8361900)
    ∷ []

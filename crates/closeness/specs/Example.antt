-- A list of calls of which the claim speaks, and one of which it does not, with figures worked from the
-- rules of docs/SPECIFICATION.md alone by tests/reckoning. Definitions only.
use Rattle.std.specs.Prelude.{Bool, false, List, [], ◌∷◌, ℕ, zero, suc, ℤ, pos, neg_ℤ, negsuc, get_or, replicate}
use Rattle.std.specs.Float.{fin}
use Rattle.bands.specs.House.{house_set}
use Rattle.settings.specs.declared.Setting.TheVariants.{Position, Factor, Mute}
use Rattle.calls.specs.Calls.{Call, order, block}
use Rattle.closeness.specs.Claim.{Exact, silent, all_exacts}

-- with the house set: the volume to position 31; the left 16 kHz band, which does not feed back, to the factor 1/2; the left 62 Hz band,
-- which does, muted; an order for a side that is not there; a block of three bytes; and the frames (32767, -32768) and (-32768, 32767)
abbrev pub example_calls : List Call
example_calls =
    order 2 10 (Position 31)
    ∷ order 0 9 (Factor (fin false 1 (negsuc 0)))
    ∷ order 0 1 Mute
    ∷ order 3 0 Mute
    ∷ block (1 ∷ 2 ∷ 3 ∷ []) (replicate 3 7)
    ∷ block (255 ∷ 127 ∷ 0 ∷ 128 ∷ 0 ∷ 128 ∷ 255 ∷ 127 ∷ []) (replicate 9 7)
    ∷ []

-- what is heard of it on the left, and that no section limits
abbrev pub left_samples : List ℤ
left_samples = pos 2 ∷ neg_ℤ (pos 3) ∷ []

abbrev pub left_limits : List Bool
left_limits = false ∷ false ∷ []

-- the exact reckoning on the left after frame 2, its output, and twice the bound, both over 2^54 × 2^44
abbrev pub second : Exact
second = get_or (all_exacts 2 0 house_set example_calls) 1 silent

abbrev pub second_output : ℤ
second_output = neg_ℤ (pos 1037519395682638678721079631872)

abbrev pub second_bound : ℕ
second_bound = 316912773820027608768691830784

-- so many bands with the largest alpha, and the largest sample: a section limits
abbrev pub loud_set : ℕ → List ℤ
loud_set zero = []
loud_set (suc bands) = pos 8388607 ∷ pos 0 ∷ pos 0 ∷ loud_set bands

abbrev pub loud_calls : List Call
loud_calls = block (255 ∷ 127 ∷ 0 ∷ 0 ∷ []) (replicate 4 0) ∷ []

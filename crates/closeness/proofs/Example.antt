-- The claim speaks of the example's frames, and its definitions give the figures.
use mathlib.Core.Path.{◌≡◌, refl, sym, ap, subst}
use mathlib.Core.Bool.{Bool, true}
use mathlib.Core.List.{List, [], ◌∷◌}
use Prim.Native.Nat.{◌<◌}
use lib.Dec.{lit≤}
use lib.IntN.{ℤ, pos, neg_ℤ}
use lib.ListN.{length, get_or, take}
use Rattle.lists.specs.Lists.{any_of}
use Rattle.rounding.specs.Rounding.{floor, rest, odd, goes_up, nearest, taken, limit, within}
use Rattle.refusals.specs.Numbers.{is_accepted}
use Rattle.bands.specs.Bands.{band_count, alpha_accepted, beta_accepted, gamma_accepted, band_verdict}
use Rattle.bands.specs.House.{house_set}
use Rattle.floats.specs.Value.{in_units, in_range, factor_target}
use Rattle.section.specs.Equation.{exact_sum, worked}
use Rattle.levels.specs.Levels.{ramp}
use Rattle.unit.specs.Cleared.{bands_of}
use Rattle.unit.specs.Frame.{section_frame, channel_frame, exact_mix, mix, output, unit_frame}
use Rattle.unit.specs.Fit.{is_volume, is_input, is_flag, is_remainder, is_plain, unit_fits}
use Rattle.loading.specs.Loading.{set_verdict}
use Rattle.settings.specs.Settings.{is_place, names, band_position, volume_position, target_of, level_verdict}
use Rattle.orders.specs.Orders.{order_verdict, aimed_unit, ordered}
use Rattle.frames.specs.Bytes.{sample_of, sample_at, bits_of}
use Rattle.frames.specs.Played.{played_on, sound_on}
use Rattle.blocks.specs.Block.{block_verdict, block_played, block_output}
use Rattle.closeness.specs.Claim.{exact_frame, exact_mixed, exact_output, exact_played, bound, Close, all_samples, all_limits}
use Rattle.closeness.specs.Example.{example_calls, left_samples, left_limits, second, second_output, second_bound, loud_set, loud_calls}
use Rattle.closeness.proofs.Holds.{demand3}

-- the definitions give the figures: what the unit hands back
pub heard_hold : (all_samples 2 0 house_set example_calls ≡ left_samples) × (all_limits 2 0 house_set example_calls ≡ left_limits) × (all_limits 2 0 (loud_set band_count) loud_calls ≡ true ∷ [])
unfolding house_set ordered order_verdict aimed_unit target_of level_verdict is_place names band_position volume_position factor_target in_units in_range unit_fits is_volume is_input is_flag is_remainder is_plain band_verdict alpha_accepted beta_accepted gamma_accepted block_played block_output block_verdict played_on sound_on sample_at sample_of bits_of unit_frame channel_frame section_frame exact_mix mix output exact_sum worked nearest taken goes_up odd rest floor limit within ramp
heard_hold = (refl, refl, refl)

-- and the exact reckoning
pub exact_hold : (exact_output second ≡ second_output) × (bound (bands_of house_set) 2 second ≡ second_bound)
unfolding house_set target_of level_verdict is_place names band_position volume_position factor_target in_units in_range sample_at sample_of exact_frame exact_mixed exact_output exact_played exact_sum nearest goes_up odd rest floor limit ramp
exact_hold = (refl, refl)

-- the house set is accepted
house_set_accepted : is_accepted (set_verdict house_set) ≡ true
unfolding set_verdict house_set band_verdict alpha_accepted beta_accepted gamma_accepted within
house_set_accepted = refl

-- the claim speaks of frame 2 on the left
pub second_close : Close (bands_of house_set) 2 (neg_ℤ (pos 3)) second
second_close =
    subst (λ (s : ℤ). Close (bands_of house_set) 2 s second) (ap (λ (l : List ℤ). get_or l 1 (pos 0)) heard_hold.0)
    (demand3.close 2 0 house_set example_calls (lit≤ tt) house_set_accepted 1
    (subst (λ (l : List ℤ). 1 < length l) (sym heard_hold.0) (lit≤ tt))
    (ap (λ (l : List Bool). any_of (take 2 l)) heard_hold.1))

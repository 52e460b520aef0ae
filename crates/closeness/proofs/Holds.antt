-- Demand 3 holds.
use mathlib.Core.Path.{◌≡◌, refl, sym, ap, subst}
use mathlib.Core.Bool.{Bool, true, false}
use mathlib.Core.List.{List, [], ◌∷◌}
use Prim.Native.Nat.{ℕ, suc, ◌<◌}
use native.Mathlib.Nat.{zero-add}
use native.Mathlib.Omega.{arith}
use lib.IntN.{ℤ, pos}
use lib.ListN.{length, get_or, take, replicate, get_or-replicate}
use Rattle.lists.specs.Lists.{any_of}
use Rattle.refusals.specs.Numbers.{is_accepted}
use Rattle.bands.specs.declared.Band.{Band}
use Rattle.unit.specs.declared.Channel.{Channel}
use Rattle.unit.specs.Cleared.{cleared_level, cleared_band_section, cleared_channel, bands_of}
use Rattle.unit.specs.Frame.{feeds_back}
use Rattle.loading.specs.Loading.{set_verdict}
use Rattle.unit.specs.Answered.{Answered}
use Rattle.loading.proofs.Laws.{loaded_accepted}
use Rattle.calls.specs.Calls.{Call, starting_unit}
use Rattle.calls.proofs.Kept.{Kept, begun_kept, list_kept}
use Rattle.closeness.specs.Claim.{silent_results, silent, all_samples, all_limits, all_exacts, ended, Agreeing, Demand3}
use Rattle.closeness.proofs.Band.{near_start}
use Rattle.closeness.proofs.Channel.{NearAll, Tied}
use Rattle.closeness.proofs.Follows.{FrameFollows, Follows, follows_at, follows_length}
use Rattle.closeness.proofs.Run.{TiedUnit, list_follows, list-flag}

-- ---- where a list begins

-- n sections that hold nothing, and as many results of the exact reckoning
silent_near : (test : ℕ → Bool) (bands : List Band) → NearAll test 0 bands (replicate (length bands) cleared_band_section) (replicate (length bands) silent_results)
silent_near test [] = tt
silent_near test (band ∷ bands) = (near_start band (test 0), silent_near (λ (place : ℕ). test (suc place)) bands)

module _ (channels channel : ℕ) (inside : channel < channels) (set : List ℤ) (accepted : is_accepted (set_verdict set) ≡ true) where
  -- the cleared channel, and silence
  cleared_tied : Tied (bands_of set) 0 false cleared_level cleared_channel silent
  cleared_tied =
      record {
        scale = refl;
        volumes = refl;
        gains = refl;
        x1 = refl;
        x2 = refl;
        flags = refl;
        near = λ h. silent_near feeds_back (bands_of set);
      }

  start_kept : Kept channels (starting_unit channels set)
  start_kept = begun_kept channels set accepted

  begun_tied : TiedUnit channels channel inside (bands_of set) 0 false (starting_unit channels set) silent
  begun_tied =
      record {
        bands_are = refl;
        tied =
            subst (λ (c : Channel). Tied (bands_of set) 0 false cleared_level c silent)
            (sym (get_or-replicate channels channel cleared_channel cleared_channel inside)) cleared_tied;
      }

  -- ---- every frame of it

  module _ (calls : List Call) where
    all_follow : Follows (bands_of set) 0 false (all_samples channels channel set calls) (all_limits channels channel set calls) (all_exacts channels channel set calls)
    all_follow = list_follows channels channel inside (bands_of set) calls 0 false (starting_unit channels set) silent start_kept begun_tied

    at_frame : (i : ℕ) → i < length (all_samples channels channel set calls) → FrameFollows (bands_of set) i (any_of (take (suc i) (all_limits channels channel set calls))) (get_or (all_samples channels channel set calls) i (pos 0)) (get_or (all_exacts channels channel set calls) i silent)
    at_frame i h =
        subst (λ (n : ℕ). FrameFollows (bands_of set) n (any_of (take (suc i) (all_limits channels channel set calls))) (get_or (all_samples channels channel set calls) i (pos 0)) (get_or (all_exacts channels channel set calls) i silent)) (zero-add i)
        (follows_at (bands_of set) 0 false (all_samples channels channel set calls) (all_limits channels channel set calls) (all_exacts channels channel set calls) (pos 0) silent all_follow i h)

    agreeing : Agreeing channels channel set calls
    agreeing =
        record {
          exact_frames = lengths.0;
          limits_frames = lengths.1;
          scales = λ i h. (at_frame i (omega (arith, lengths.0))).scale;
          flag_agrees = list-flag channels channel inside (bands_of set) calls 0 false (starting_unit channels set) silent start_kept begun_tied;
          stays_fit = after.fit;
          stays_shaped = after.shape;
        }
      where
        after : Kept channels (ended channels channel set calls)
        after = list_kept channels (starting_unit channels set) calls start_kept

        lengths : (length (all_exacts channels channel set calls) ≡ length (all_samples channels channel set calls)) × (length (all_limits channels channel set calls) ≡ length (all_samples channels channel set calls))
        lengths =
            follows_length (bands_of set) 0 false (all_samples channels channel set calls) (all_limits channels channel set calls) (all_exacts channels channel set calls) all_follow

-- demand 3
pub demand3 : Demand3
demand3 =
    record {
      close = λ channels channel set calls inside accepted i h. (at_frame channels channel inside set accepted calls i h).close;
      begins = λ set accepted. ap (λ (l : Answered). l.unit) (loaded_accepted set accepted);
      agreeing = λ channels channel set calls inside accepted. agreeing channels channel inside set accepted calls;
    }

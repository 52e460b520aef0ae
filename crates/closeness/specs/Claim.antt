-- Demand 3, with all that it rests on: docs/SPECIFICATION.md, The exact sound and the distance. Definitions only; `Demand3`, at the end, is
-- proved in proofs/Holds.antt.
--
-- "Take a list of calls, each a level order or a block of frames, refused ones included. It begins with a cleared unit with an accepted
-- band set. Each call gets the unit that the last one handed back, and nobody else changes it meanwhile. Frames are numbered from 1 over
-- the accepted blocks. For every such list, whatever the orders ask and the blocks hold, and for every frame n and each side: if no
-- section of that side has limited up to and including frame n, its sample for frame n differs from the exact output for frame n, worked
-- without rounding and limited only at the end, by at most 1/2 + V/2^32 + V × (sum over the bands of |g| × H)/2^55 sample steps. V and g
-- are the volume and that side's gains used in frame n, and H is the sum of the first n absolute values of that band's impulse response;
-- for bands 0 to 3 it is the sum of the first n |h(k) - h(k-1)|, h(-1) = 0."
--
-- The list of calls, with the unit that it hands back and its samples, is that of calls/specs/Calls.antt. A side is a channel here, and the
-- number of channels is a parameter: the product has two. Lists of frames begin with frame 1.
use Rattle.std.specs.Prelude.{◌≡◌, Bool, true, false, cond, List, [], ◌∷◌, ◌++◌, map, ℕ, zero, suc, ◌+◌, ◌*◌, ◌^◌, ◌≤◌, ◌<◌, eqb, ℤ, pos, nat_abs, ◌+ℤ◌, ◌-ℤ◌, ◌*ℤ◌, length, get_or, take, replicate}
use Rattle.lists.specs.Lists.{tabulate, changed, any_of}
use Rattle.rounding.specs.Rounding.{limit}
use Rattle.refusals.specs.Numbers.{is_accepted}
use Rattle.bands.specs.Bands.{band_count}
use Rattle.bands.specs.declared.Band.{Band}
use Rattle.section.specs.Equation.{exact_sum, sum_shift, flag}
use Rattle.levels.specs.declared.Level.{Level}
use Rattle.levels.specs.Levels.{gain_slope, volume_slope, moved, aimed}
use Rattle.unit.specs.Sizes.{channel_count}
use Rattle.unit.specs.declared.Unit.{Unit}
use Rattle.unit.specs.Cleared.{cleared_level, bands_of}
use Rattle.unit.specs.Frame.{feeds_back, any_limits, sample_low, sample_high}
use Rattle.unit.specs.Fit.{Fit}
use Rattle.unit.specs.Shaped.{Shaped}
use Rattle.loading.specs.Loading.{set_verdict, loaded}
use Rattle.settings.specs.Settings.{volume_band, names, target_of, order_arguments}
use Rattle.frames.specs.Bytes.{word_at, frame_count}
use Rattle.frames.specs.Played.{played_on}
use Rattle.blocks.specs.Block.{block_arguments}
use Rattle.calls.specs.Calls.{Call, order, block, starting_unit, channel_in, unit_after, handed_back, frames_of, place_of, samples}

-- ---- "if no section of that side has limited"

module _ (channel : ℕ) where
  -- "Whether a section has limited is worked from the list by the rounding and limiting under Words and the section, and not read from
  -- the flag; in bands 0 to 3 of the increased S": one of the channel's sections limits in the frame that this unit plays on x
  abbrev pub limits_on : ℤ → Unit → Bool
  limits_on x u = any_limits feeds_back u.bands x (channel_in channel u).x2 (channel_in channel u).sections

  -- in frame k of these words, k from 0
  abbrev pub limits_in : Unit → (ℕ → List ℤ) → ℕ → Bool
  limits_in u words k = limits_on (get_or (words k) channel (pos 0)) (played_on words u k)

module _ (channels channel : ℕ) where
  -- in the frames of a call, and of the list
  abbrev pub limits_of : Unit → Call → List Bool
  limits_of u call = frames_of channels u call (λ (words : ℕ → List ℤ) (output : List ℕ). limits_in channel u words)

  abbrev pub limits : Unit → List Call → List Bool
  limits u [] = []
  limits u (call ∷ calls) = limits_of u call ++ limits (unit_after channels u call) calls

-- ---- "The exact sound has a reckoning of its own. It is fed the band set and each call of the list with its arguments, and takes nothing
-- from the unit."

-- "All are fractions over powers of two, so whole numbers state them": after n frames they stand over (2^22)^n
abbrev pub divisor : ℕ
divisor = 2 ^ sum_shift

-- "y1 and y2 for each band of a side"
pub record Results : Type 0 where
  pub y1 : ℤ
  pub y2 : ℤ

-- "It holds a present number and a target for each gain and the volume, x1 and x2 for each side, and y1 and y2 for each band": for one
-- channel. x1, x2, y1 and y2 stand over `scale`, (2^22)^n after n frames
pub record Exact : Type 0 where
  pub scale : ℕ
  pub volume : Level
  pub gains : List Level
  pub x1 : ℤ
  pub x2 : ℤ
  pub results : List Results

-- "All begin at zero"
abbrev pub silent_results : Results
silent_results = record { y1 = pos 0; y2 = pos 0 }

abbrev pub silent : Exact
silent =
    record {
      scale = 1;
      volume = cleared_level;
      gains = replicate band_count cleared_level;
      x1 = pos 0;
      x2 = pos 0;
      results = replicate band_count silent_results;
    }

-- a fraction on the next frame's scale
abbrev pub rescaled : ℤ → ℤ
rescaled z = pos divisor *ℤ z

-- "each band's y = (A × (x - x2) + G × y1 - B × y2) / 2^22", the division left to the scale; "y1 to y2 and y to y1"
abbrev pub exact_results : Band → ℤ → ℤ → Results → Results
exact_results band x x2 r = record { y1 = exact_sum band x x2 r.y1 r.y2; y2 = rescaled r.y1 }

abbrev pub all_results : List Band → ℤ → ℤ → List Results → List Results
all_results [] x x2 rs = []
all_results (band ∷ bands) x x2 [] = []
all_results (band ∷ bands) x x2 (r ∷ rs) = exact_results band x x2 r ∷ all_results bands x x2 rs

-- a frame on x: "every gain and V first moves as under Levels"; then the sound; "then x1 passes to x2 and x to x1"
unfoldable pub exact_frame : List Band → ℤ → Exact → Exact
exact_frame bands x e =
    record {
      scale = divisor * e.scale;
      volume = moved volume_slope e.volume;
      gains = map (moved gain_slope) e.gains;
      x1 = rescaled (pos e.scale *ℤ x);
      x2 = rescaled e.x1;
      results = all_results bands (pos e.scale *ℤ x) e.x2 e.results;
    }

-- the sum of g × y, after the frame
abbrev pub gained : List Level → List Results → ℤ
gained [] rs = pos 0
gained (g ∷ gs) [] = pos 0
gained (g ∷ gs) (r ∷ rs) = g.present *ℤ r.y1 +ℤ gained gs rs

-- "m = x + (sum of g × y) / 2^23": over 2^23 × scale
unfoldable pub exact_mixed : Exact → ℤ
exact_mixed e = pos (2 ^ 23) *ℤ e.x1 +ℤ gained e.gains e.results

-- what the output stands over: 2^31 × 2^23 × scale
abbrev pub output_scale : Exact → ℕ
output_scale e = 2 ^ 54 * e.scale

-- "The exact output is V × m / 2^31, limited to -32,768 to 32,767"
unfoldable pub exact_output : Exact → ℤ
exact_output e =
    limit (pos (output_scale e) *ℤ sample_low) (pos (output_scale e) *ℤ sample_high) (e.volume.present *ℤ exact_mixed e)

-- "An accepted block gives its frames in turn": after the first k of them. Frame k, k from 0, is on word k of the channel
unfoldable pub exact_played : List Band → (ℕ → ℤ) → Exact → ℕ → Exact
exact_played bands word e zero = e
exact_played bands word e (suc k) = exact_frame bands (word k) (exact_played bands word e k)

-- the channel's words of a block
abbrev pub exact_word : ℕ → ℕ → List ℕ → ℕ → ℤ
exact_word channels channel input k = word_at input (place_of channels channel k)

module _ (channels channel : ℕ) (bands : List Band) where
  -- "An accepted order sets targets by the rules under Levels"
  abbrev pub exact_aimed : ℕ → ℕ → ℤ → Exact → Exact
  exact_aimed side band target e =
      record {
        scale = e.scale;
        volume = cond (eqb band volume_band) (aimed target e.volume) e.volume;
        gains =
            cond (eqb band volume_band) e.gains
            (cond (names side channel) (changed (eqb band) (aimed target) e.gains) e.gains);
        x1 = e.x1;
        x2 = e.x2;
        results = e.results;
      }

  -- "A call refused for its arguments changes nothing"
  abbrev pub exact_after : Exact → Call → Exact
  exact_after e (order side band level) =
      cond (is_accepted (order_arguments channels side band level)) (exact_aimed side band (target_of band level) e) e
  exact_after e (block input room) =
      cond (is_accepted (block_arguments channels (length input) (length room))) (exact_played bands (exact_word channels channel input) e (frame_count channels input)) e

  -- the reckoning as it stands after each frame
  abbrev pub exacts_of : Exact → Call → List Exact
  exacts_of e (order side band level) = []
  exacts_of e (block input room) =
      cond (is_accepted (block_arguments channels (length input) (length room)))
      (tabulate (frame_count channels input) (λ (k : ℕ). exact_played bands (exact_word channels channel input) e (suc k))) []

  abbrev pub exacts : Exact → List Call → List Exact
  exacts e [] = []
  exacts e (call ∷ calls) = exacts_of e call ++ exacts (exact_after e call) calls

-- ---- "The impulse response is h(0) = 1, h(1) = G / 2^22, h(k) = (G × h(k-1) - B × h(k-2)) / 2^22"

-- (2^22)^k × h(k)
abbrev pub response : Band → ℕ → ℤ
response band zero = pos 1
response band (suc zero) = band.gamma
response band (suc (suc k)) = band.gamma *ℤ response band (suc k) -ℤ band.beta *ℤ rescaled (response band k)

-- (2^22)^(k-1) × h(k-1), "h(-1) = 0"
abbrev pub response_before : Band → ℕ → ℤ
response_before band zero = pos 0
response_before band (suc k) = response band k

-- (2^22)^k × (h(k) - h(k-1))
abbrev pub response_difference : Band → ℕ → ℤ
response_difference band k = response band k -ℤ rescaled (response_before band k)

-- (2^22)^k times what the rounding of a step adds to the result k steps later, for each one that it adds to the result of that step. `feeds` says
-- whether the band feeds its remainder back: the next step then takes out of S what the rounding added
abbrev pub error_response : Bool → Band → ℕ → ℤ
error_response feeds band k = cond feeds (response_difference band k) (response band k)

-- "H is the sum of the first n absolute values of that band's impulse response"; "for bands 0 to 3 it is the sum of the first n
-- |h(k) - h(k-1)|, h(-1) = 0": (2^22)^n × H
abbrev pub response_sum : Bool → Band → ℕ → ℕ
response_sum feeds band zero = 0
response_sum feeds band (suc n) = divisor * (response_sum feeds band n + nat_abs (error_response feeds band n))

-- "sum over the bands of |g| × H", on the scale of frame n; the test says which of the bands feed back, by their places from 0 on
abbrev pub gained_sums : (ℕ → Bool) → ℕ → List Level → List Band → ℕ
gained_sums test n [] bands = 0
gained_sums test n (g ∷ gs) [] = 0
gained_sums test n (g ∷ gs) (band ∷ bands) =
    nat_abs g.present * response_sum (test 0) band n + gained_sums (λ (place : ℕ). test (suc place)) n gs bands

-- ---- the claim

-- "1/2 + V/2^32 + V × (sum over the bands of |g| × H)/2^55", for the reckoning after frame n: twice it, on the scale of the output
abbrev pub bound : List Band → ℕ → Exact → ℕ
bound bands n e =
    output_scale e + nat_abs e.volume.present * (2 ^ 23 * e.scale) + nat_abs e.volume.present * gained_sums feeds_back n e.gains bands

-- the sample differs from the exact output "by at most" that: twice the distance, on the same scale
pub record Close (bands : List Band) (n : ℕ) (s : ℤ) (e : Exact) : Type 0 where
  pub distance : 2 * nat_abs (pos (output_scale e) *ℤ s -ℤ exact_output e) ≤ bound bands n e

-- a list that begins with a cleared unit with this band set, and one of its channels
module _ (channels channel : ℕ) (set : List ℤ) (calls : List Call) where
  -- all frames of the list: the samples, whether a section limits, and the exact reckoning
  abbrev pub all_samples : List ℤ
  all_samples = samples channels channel (starting_unit channels set) calls

  abbrev pub all_limits : List Bool
  all_limits = limits channels channel (starting_unit channels set) calls

  abbrev pub all_exacts : List Exact
  all_exacts = exacts channels channel (bands_of set) silent calls

  -- "for every frame n": "if no section of that side has limited up to and including frame n", it is close. Here n = i + 1
  abbrev pub CloseAt : ℕ → Type 0
  CloseAt i =
      i < length all_samples → any_of (take (suc i) all_limits) ≡ false → Close (bands_of set) (suc i) (get_or all_samples i (pos 0)) (get_or all_exacts i silent)

  -- the unit that the list hands back
  abbrev pub ended : Unit
  ended = handed_back channels (starting_unit channels set) calls

  -- beside it: the three lists speak of the same frames; the exact reckoning stands over (2^22)^n after frame n, on which `Close` rests (in
  -- `scales`, n = i + 1); the flag tells the same as `limits`; the unit stays fit, so that "14 can't arise in the list"; and it keeps ten
  -- bands, and `channels` channels of ten sections
  pub record Agreeing : Type 0 where
    pub exact_frames : length all_exacts ≡ length all_samples
    pub limits_frames : length all_limits ≡ length all_samples
    pub scales : (i : ℕ) → i < length all_exacts → (get_or all_exacts i silent).scale ≡ divisor ^ suc i
    pub flag_agrees : (channel_in channel ended).flag ≡ pos (flag (any_of all_limits))
    pub stays_fit : Fit ended
    pub stays_shaped : Shaped channels ended

-- "For every such list, whatever the orders ask and the blocks hold, and for every frame n and each side"
pub record Demand3 : Type 0 where
  pub close : (channels channel : ℕ) (set : List ℤ) (calls : List Call) → channel < channels → is_accepted (set_verdict set) ≡ true → (i : ℕ) → CloseAt channels channel set calls i
  pub begins : (set : List ℤ) → is_accepted (set_verdict set) ≡ true → (loaded set).unit ≡ starting_unit channel_count set
  pub agreeing : (channels channel : ℕ) (set : List ℤ) (calls : List Call) → channel < channels → is_accepted (set_verdict set) ≡ true → Agreeing channels channel set calls

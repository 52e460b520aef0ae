-- A cleared unit has the shape, and a frame keeps it.
use mathlib.Core.Path.{◌≡◌, refl, sym, ap, ◌∙◌}
use mathlib.Core.Bool.{Bool}
use mathlib.Core.List.{List, [], ◌∷◌}
use Prim.Native.Nat.{ℕ, suc}
use native.Mathlib.Omega.{arith}
use lib.IntN.{ℤ}
use lib.ListN.{length, length-replicate}
use Rattle.lists.specs.Lists.{Each}
use Rattle.lists.proofs.Each.{each-replicate}
use Rattle.bands.specs.Bands.{band_count}
use Rattle.bands.specs.declared.Band.{Band}
use Rattle.unit.specs.declared.BandSection.{BandSection}
use Rattle.unit.specs.declared.Channel.{Channel}
use Rattle.unit.specs.declared.Unit.{Unit}
use Rattle.unit.specs.Cleared.{cleared_channel, cleared_unit}
use Rattle.unit.specs.Frame.{feeds_back, sections_frame, channel_frame, channels_frame, unit_frame}
use Rattle.unit.specs.Shaped.{TenSections, Shaped}

-- with any number of channels, on ten bands
pub cleared_shaped : (channels : ℕ) (bands : List Band) → length bands ≡ band_count → Shaped channels (cleared_unit channels bands)
cleared_shaped channels bands h =
    record { bands = h; channels = length-replicate channels cleared_channel; sections = each-replicate TenSections channels cleared_channel refl }

-- a frame leaves a section for each band
pub frame_sections : (test : ℕ → Bool) (bands : List Band) (x x2 : ℤ) (ss : List BandSection) → length ss ≡ length bands → length (sections_frame test bands x x2 ss) ≡ length bands
frame_sections test [] x x2 ss h = refl
frame_sections test (band ∷ bands) x x2 [] h = absurd (omega arith)
frame_sections test (band ∷ bands) x x2 (s ∷ ss) h = ap suc (frame_sections (λ (place : ℕ). test (suc place)) bands x x2 ss (omega arith))

-- and a channel for each word
pub frame_channels : (bands : List Band) (xs : List ℤ) (cs : List Channel) → length xs ≡ length cs → length (channels_frame bands xs cs) ≡ length cs
frame_channels bands [] [] h = refl
frame_channels bands [] (c ∷ cs) h = absurd (omega arith)
frame_channels bands (x ∷ xs) [] h = absurd (omega arith)
frame_channels bands (x ∷ xs) (c ∷ cs) h = ap suc (frame_channels bands xs cs (omega arith))

-- with ten bands each of the channels keeps ten sections
frame_each : (bands : List Band) (xs : List ℤ) (cs : List Channel) → length bands ≡ band_count → Each TenSections cs → Each TenSections (channels_frame bands xs cs)
unfolding channel_frame
frame_each bands [] cs b h = tt
frame_each bands (x ∷ xs) [] b h = tt
frame_each bands (x ∷ xs) (c ∷ cs) b h =
    (frame_sections feeds_back bands x c.x2 c.sections (h.0 ∙ sym b) ∙ b, frame_each bands xs cs b h.1)

-- so a frame on a word for each channel keeps the shape
pub frame_shaped : (channels : ℕ) (xs : List ℤ) (u : Unit) → length xs ≡ channels → Shaped channels u → Shaped channels (unit_frame xs u)
unfolding unit_frame
frame_shaped channels xs u h s =
    record {
      bands = s.bands;
      channels = frame_channels u.bands xs u.channels (h ∙ sym s.channels) ∙ s.channels;
      sections = frame_each u.bands xs u.channels s.bands s.sections;
    }

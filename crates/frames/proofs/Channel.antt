-- One channel of a frame: its word, and what the frame makes of it.
use mathlib.Core.Path.{◌≡◌, refl, ap, ◌∙◌}
use mathlib.Core.List.{List, [], ◌∷◌}
use Prim.Native.Nat.{ℕ, zero, suc, ◌+◌, ◌*◌, ◌<◌}
use native.Mathlib.Omega.{arith}
use lib.IntN.{ℤ, pos}
use lib.ListN.{length, get_or}
use Rattle.bands.specs.declared.Band.{Band}
use Rattle.unit.specs.declared.Channel.{Channel}
use Rattle.unit.specs.Frame.{channel_frame, channels_frame}
use Rattle.frames.specs.Bytes.{word_at, words_at, frame_size}
use Rattle.frames.specs.Played.{block_words}

-- word c of a frame
pub word_of : (channels : ℕ) (input : List ℕ) (at c : ℕ) → c < channels → get_or (words_at channels input at) c (pos 0) ≡ word_at input (at + 2 * c)
word_of zero input at c h = absurd (omega arith)
word_of (suc channels) input at zero h = ap (word_at input) (omega arith)
word_of (suc channels) input at (suc c) h = word_of channels input (at + 2) c (omega arith) ∙ ap (word_at input) place
  where
    place : at + 2 + 2 * c ≡ at + 2 * suc c
    place = omega arith

-- channel c after a frame
pub channel_at : (bands : List Band) (xs : List ℤ) (cs : List Channel) (c : ℕ) (d : Channel) → c < length xs → c < length cs → get_or (channels_frame bands xs cs) c d ≡ channel_frame bands (get_or xs c (pos 0)) (get_or cs c d)
channel_at bands [] cs c d h k = absurd (omega arith)
channel_at bands (x ∷ xs) [] c d h k = absurd (omega arith)
channel_at bands (x ∷ xs) (a ∷ cs) zero d h k = refl
channel_at bands (x ∷ xs) (a ∷ cs) (suc c) d h k = channel_at bands xs cs c d (omega arith) (omega arith)

-- word c of frame k of a block
pub block_word : (channels : ℕ) (input : List ℕ) (k c : ℕ) → c < channels → get_or (block_words channels input k) c (pos 0) ≡ word_at input (frame_size channels * k + 2 * c)
block_word channels input k c h = word_of channels input (frame_size channels * k) c h

-- One channel of a block: the words that it takes in, frame by frame, and its samples, read back from the output's bytes.
use mathlib.Core.Path.{◌≡◌, refl, sym, ap, ◌∙◌}
use mathlib.Core.Bool.{Bool, true, false, cond}
use mathlib.Core.List.{List, [], ◌∷◌, ◌++◌, map}
use Prim.Native.Nat.{ℕ, zero, suc, ◌+◌, ◌*◌, ◌/◌, ◌%◌, ◌<◌}
use native.Mathlib.Nat.{div-add-mod', mod-lt, mod-eq_of_lt, mul-le-mul_left}
use native.Mathlib.Omega.{arith}
use lib.Dec.{eqb, ltb, lit≤}
use lib.IntN.{ℤ, pos, ◌+ℤ◌, ◌-ℤ◌}
use lib.ListN.{length, get_or, drop, length-map, get_or-map}
use lib.Signed.{◌≤ℤ◌, le_z_yes}
use borrow.Author.Tests.{eqb-true, eqb-false, ltb-true, ltb-false}
use Rattle.integers.proofs.Parts.{linear, var, ◌⊕◌, ◌⊖◌}
use Rattle.integers.proofs.Abs.{abs_nonneg}
use Rattle.lists.specs.Lists.{Each}
use Rattle.rounding.proofs.Limit.{limit-low, limit_high}
use Rattle.unit.specs.declared.Channel.{Channel}
use Rattle.unit.specs.declared.Unit.{Unit}
use Rattle.unit.specs.Frame.{channel_frame, unit_frame, mix, sample_low, sample_high, output, heard}
use Rattle.frames.specs.Bytes.{sample_of, sample_at, frame_size, frame_count, bits_of, low_byte, high_byte, bytes_of}
use Rattle.frames.specs.Played.{played_on, sound_on, block_words}
use Rattle.frames.proofs.Many.{Feeds, block_feeds, fed_channels, fed_length}
use Rattle.frames.proofs.Channel.{channel_at}
use Rattle.blocks.specs.Block.{block_output}
use Rattle.blocks.proofs.Block.{BlockAccepts}
use Rattle.blocks.proofs.Append.{sample_front, sample_behind, accepted_output}

-- channel c, one frame more
pub fed_channel : {channels : ℕ} (words : ℕ → List ℤ) → Feeds channels words → (u : Unit) → length u.channels ≡ channels → (c : ℕ) (d : Channel) → c < channels → (k : ℕ) → get_or (played_on words u (suc k)).channels c d ≡ channel_frame (played_on words u k).bands (get_or (words k) c (pos 0)) (get_or (played_on words u k).channels c d)
unfolding played_on unit_frame
fed_channel words feeds u width c d h k =
    channel_at (played_on words u k).bands (words k) (played_on words u k).channels c d (omega (arith, feeds.as_many k)) (omega (arith, fed_channels words feeds u k width))

-- ---- a sample that was stored is read back

module _ (s : ℤ) (low : sample_low ≤ℤ s) (high : s ≤ℤ sample_high) where
  bits_are : pos (bits_of s) ≡ s +ℤ pos 65536
  unfolding bits_of
  bits_are = abs_nonneg (omega (linear, (var s ⊕ var (pos 65536)).tie))

  -- the two bytes make up the low 16 bits
  low_bits : (b : ℕ) → 65536 * (b / 256 / 256) + (b % 256 + 256 * (b / 256 % 256)) ≡ b
  low_bits b = omega (arith, div-add-mod' b 256, div-add-mod' (b / 256) 256)

  read_back : sample_of ((low_byte s + 256 * high_byte s) % 65536) ≡ s
  unfolding sample_of
  read_back = ap (λ (m : ℕ). cond (ltb m 32768) (pos m) (pos m -ℤ pos 65536)) (mod-eq_of_lt small) ∙ go (ltb n 32768) refl
    where
      n : ℕ
      n = low_byte s + 256 * high_byte s

      small : n < 65536
      small = omega (arith, mod-lt (bits_of s) {m = 256} (lit≤ tt), mod-lt (bits_of s / 256) {m = 256} (lit≤ tt))

      go : (t : Bool) → ltb n 32768 ≡ t → cond t (pos n) (pos n -ℤ pos 65536) ≡ s
      go true e = omega (linear, bits_are, low_bits (bits_of s), (var s ⊕ var (pos 65536)).tie, ltb-true n 32768 e, small)
      go false e =
          omega (
            linear,
            bits_are,
            low_bits (bits_of s),
            (var s ⊕ var (pos 65536)).tie,
            (var (pos n) ⊖ var (pos 65536)).tie,
            ltb-false n 32768 e,
            small,
          )

abbrev SampleRange : ℤ → Type 0
SampleRange s = (sample_low ≤ℤ s) × (s ≤ℤ sample_high)

-- so is every sample of a frame
read_of : (ss : List ℤ) (c : ℕ) (d : ℤ) → Each SampleRange ss → c < length ss → sample_at (bytes_of ss) (2 * c) ≡ get_or ss c d
unfolding sample_at
read_of [] c d r h = absurd (omega arith)
read_of (s ∷ ss) zero d r h = read_back s r.0.0 r.0.1
read_of (s ∷ ss) (suc c) d r h =
    ap (sample_at (bytes_of (s ∷ ss))) place
    ∙ sample_behind (low_byte s ∷ high_byte s ∷ []) (bytes_of ss) (2 * c)
    ∙ read_of ss c d r.1 (omega arith)
  where
    place : 2 * suc c ≡ 2 + 2 * c
    place = omega arith

-- an output is a sample
output_range : (v m : ℤ) → SampleRange (output v m)
unfolding output
output_range v m = (limit-low sample_low sample_high (le_z_yes tt) _, limit_high sample_low sample_high (le_z_yes tt) _)

-- and so is all that is heard
heard_range : (v : ℤ) (cs : List Channel) → Each SampleRange (map (λ (c : Channel). output v (mix c)) cs)
heard_range v [] = tt
heard_range v (c ∷ cs) = (output_range v (mix c), heard_range v cs)

-- what is heard of channel c after k frames
abbrev pub sample_after : (ℕ → List ℤ) → Unit → ℕ → Channel → ℕ → ℤ
sample_after words u c d k = output (played_on words u k).volume.present (mix (get_or (played_on words u k).channels c d))

module _ {channels : ℕ} (words : ℕ → List ℤ) (feeds : Feeds channels words) (u : Unit) (width : length u.channels ≡ channels) (c : ℕ) (d : Channel) (h : c < channels) where
  heard_sample : (k : ℕ) → sample_at (bytes_of (heard (played_on words u k))) (2 * c) ≡ sample_after words u c d k
  heard_sample k =
      read_of (heard v) c (sound_of d) (heard_range v.volume.present v.channels) (omega (arith, length-map v.channels sound_of, fed_channels words feeds u k width))
      ∙ get_or-map sound_of v.channels c d
    where
      v : Unit
      v = played_on words u k

      sound_of : Channel → ℤ
      sound_of a = output v.volume.present (mix a)

  -- the channel's sample of frame k, k from 0, in the bytes of n frames
  pub sound_sample : (n k : ℕ) → k < n → sample_at (sound_on words u n) (frame_size channels * k + 2 * c) ≡ sample_after words u c d (suc k)
  unfolding sound_on
  sound_sample zero k l = absurd (omega arith)
  sound_sample (suc n) k l = go (eqb k n) refl (λ m. sound_sample n k m)
    where
      last : List ℕ
      last = bytes_of (heard (played_on words u (suc n)))

      go : (t : Bool) → eqb k n ≡ t → (k < n → sample_at (sound_on words u n) (frame_size channels * k + 2 * c) ≡ sample_after words u c d (suc k)) → sample_at (sound_on words u n ++ last) (frame_size channels * k + 2 * c) ≡ sample_after words u c d (suc k)
      go true e earlier =
          ap (λ (m : ℕ). sample_at (sound_on words u n ++ last) (m + 2 * c)) (ap (λ (m : ℕ). frame_size channels * m) (eqb-true k n e) ∙ sym (fed_length words feeds u n width))
          ∙ sample_behind (sound_on words u n) last (2 * c)
          ∙ heard_sample (suc n)
          ∙ ap (λ (m : ℕ). sample_after words u c d (suc m)) (sym (eqb-true k n e))
      go false e earlier = sample_front (sound_on words u n) last (frame_size channels * k + 2 * c) room ∙ earlier before
        where
          before : k < n
          before = omega (arith, eqb-false k n e)

          room : frame_size channels * k + 2 * c + 1 < length (sound_on words u n)
          room = omega (arith, fed_length words feeds u n width, mul-le-mul_left (frame_size channels) before)

  -- and ahead of other bytes
  pub front_sample : (rest : List ℕ) (n k : ℕ) → k < n → sample_at (sound_on words u n ++ rest) (frame_size channels * k + 2 * c) ≡ sample_after words u c d (suc k)
  front_sample rest n k l = sample_front (sound_on words u n) rest (frame_size channels * k + 2 * c) inside ∙ sound_sample n k l
    where
      inside : frame_size channels * k + 2 * c + 1 < length (sound_on words u n)
      inside = omega (arith, fed_length words feeds u n width, mul-le-mul_left (frame_size channels) l)

-- in the output of an accepted block
module _ (channels : ℕ) (u : Unit) (input : List ℕ) (width : length u.channels ≡ channels) (c : ℕ) (d : Channel) (h : c < channels) where
  pub output_sample : (room : List ℕ) → BlockAccepts channels u (length input) (length room) → (k : ℕ) → k < frame_count channels input → sample_at (block_output channels u input room) (frame_size channels * k + 2 * c) ≡ sample_after (block_words channels input) u c d (suc k)
  output_sample room a k l =
      ap (λ (bytes : List ℕ). sample_at bytes (frame_size channels * k + 2 * c)) (accepted_output channels u input room a)
      ∙ front_sample (block_words channels input) (block_feeds channels input) u width c d h (drop (length input) room) (frame_count channels input) k l

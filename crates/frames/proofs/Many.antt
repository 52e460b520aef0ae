-- So many frames, on any words: they keep a unit fit, and one frame more is one step of the definitions.
use mathlib.Core.Path.{◌≡◌, refl, sym, ap, ap₂, ◌∙◌}
use mathlib.Core.List.{List, [], ◌∷◌, ◌++◌, append_assoc, append-nil}
use Prim.Native.Nat.{ℕ, zero, suc, ◌+◌, ◌*◌, ◌<◌}
use native.Mathlib.Omega.{arith}
use lib.IntN.{ℤ}
use lib.ListN.{length, length-append, length-map}
use Rattle.lists.specs.Lists.{Each}
use Rattle.unit.specs.declared.Channel.{Channel}
use Rattle.unit.specs.declared.Unit.{Unit}
use Rattle.unit.specs.Frame.{unit_frame, mix, output, heard}
use Rattle.unit.specs.Fit.{Fit}
use Rattle.unit.specs.Shaped.{Shaped}
use Rattle.unit.proofs.Stays.{IsInput, unit_stays}
use Rattle.unit.proofs.Shaped.{frame_channels, frame_shaped}
use Rattle.frames.specs.Bytes.{words_at, frame_size, bytes_of}
use Rattle.frames.specs.Played.{played_on, sound_on, block_words, played, sound}
use Rattle.frames.proofs.Bytes.{words_input}

-- words for so many channels
pub record Feeds (channels : ℕ) (words : ℕ → List ℤ) : Type 0 where
  pub as_many : (k : ℕ) → length (words k) ≡ channels
  pub inputs : (k : ℕ) → Each IsInput (words k)

-- the words of a block are such words
pub words_length : (channels : ℕ) (input : List ℕ) (at : ℕ) → length (words_at channels input at) ≡ channels
words_length zero input at = refl
words_length (suc channels) input at = ap suc (words_length channels input (at + 2))

pub block_feeds : (channels : ℕ) (input : List ℕ) → Feeds channels (block_words channels input)
block_feeds channels input =
    record {
      as_many = λ k. words_length channels input (frame_size channels * k);
      inputs = λ k. words_input channels input (frame_size channels * k);
    }

pub bytes_length : (ss : List ℤ) → length (bytes_of ss) ≡ 2 * length ss
bytes_length [] = refl
bytes_length (s ∷ ss) = omega (arith, bytes_length ss)

module _ {channels : ℕ} (words : ℕ → List ℤ) (feeds : Feeds channels words) (u : Unit) where
  -- a fit unit stays fit
  pub fed_fit : (n : ℕ) → Fit u → Fit (played_on words u n)
  unfolding played_on
  fed_fit zero f = f
  fed_fit (suc n) f = unit_stays (words n) (played_on words u n) (feeds.inputs n) (fed_fit n f)

  pub fed_channels : (n : ℕ) → length u.channels ≡ channels → length (played_on words u n).channels ≡ channels
  unfolding played_on unit_frame
  fed_channels zero h = h
  fed_channels (suc n) h =
      frame_channels (played_on words u n).bands (words n) (played_on words u n).channels (feeds.as_many n ∙ sym (fed_channels n h))
      ∙ fed_channels n h

  -- the unit keeps its shape
  pub fed_shaped : (n : ℕ) → Shaped channels u → Shaped channels (played_on words u n)
  unfolding played_on
  fed_shaped zero s = s
  fed_shaped (suc n) s = frame_shaped channels (words n) (played_on words u n) (feeds.as_many n) (fed_shaped n s)

  pub fed_length : (n : ℕ) → length u.channels ≡ channels → length (sound_on words u n) ≡ frame_size channels * n
  unfolding sound_on
  fed_length zero h = omega arith
  fed_length (suc n) h =
      length-append (sound_on words u n) (bytes_of (heard (played_on words u (suc n))))
      ∙ omega (
        arith,
        fed_length n h,
        bytes_length (heard (played_on words u (suc n))),
        length-map (played_on words u (suc n)).channels (λ (c : Channel). output (played_on words u (suc n)).volume.present (mix c)),
        fed_channels (suc n) h,
      )

-- ---- the same words, and words one behind the other

module _ (words others : ℕ → List ℤ) (u : Unit) where
  -- only the words of the first n frames count
  pub played_same : (n : ℕ) → ((k : ℕ) → k < n → words k ≡ others k) → played_on words u n ≡ played_on others u n
  unfolding played_on
  played_same zero e = refl
  played_same (suc n) e = ap₂ unit_frame (e n (omega arith)) (played_same n (λ k h. e k (omega (arith, h))))

  pub sound_same : (n : ℕ) → ((k : ℕ) → k < n → words k ≡ others k) → sound_on words u n ≡ sound_on others u n
  unfolding sound_on
  sound_same zero e = refl
  sound_same (suc n) e =
      ap₂ ◌++◌ (sound_same n (λ k h. e k (omega (arith, h)))) (ap (λ (v : Unit). bytes_of (heard v)) (played_same (suc n) e))

-- n frames behind the first m
module _ (words : ℕ → List ℤ) (u : Unit) (m : ℕ) where
  abbrev behind : ℕ → List ℤ
  behind k = words (k + m)

  pub played_behind : (n : ℕ) → played_on words u (n + m) ≡ played_on behind (played_on words u m) n
  unfolding played_on
  played_behind zero = ap (played_on words u) none_and
    where
      none_and : 0 + m ≡ m
      none_and = omega arith
  played_behind (suc n) = ap (played_on words u) one_more ∙ ap (unit_frame (words (n + m))) (played_behind n)
    where
      one_more : suc n + m ≡ suc (n + m)
      one_more = omega arith

  pub sound_behind : (n : ℕ) → sound_on words u (n + m) ≡ sound_on words u m ++ sound_on behind (played_on words u m) n
  unfolding sound_on
  sound_behind zero = ap (sound_on words u) none_and ∙ sym (append-nil (sound_on words u m))
    where
      none_and : 0 + m ≡ m
      none_and = omega arith
  sound_behind (suc n) =
      ap (sound_on words u) one_more
      ∙ ap₂ ◌++◌ (sound_behind n) (ap (λ (v : Unit). bytes_of (heard v)) (ap (played_on words u) (sym one_more) ∙ played_behind (suc n)))
      ∙ append_assoc (sound_on words u m) (sound_on behind (played_on words u m) n) (bytes_of (heard (played_on behind (played_on words u m) (suc n))))
    where
      one_more : suc n + m ≡ suc (n + m)
      one_more = omega arith

-- ---- the frames of a block

module _ (channels : ℕ) (u : Unit) (input : List ℕ) where
  pub played_fit : (n : ℕ) → Fit u → Fit (played channels u input n)
  played_fit n f = fed_fit (block_words channels input) (block_feeds channels input) u n f

  pub played_channels : (n : ℕ) → length u.channels ≡ channels → length (played channels u input n).channels ≡ channels
  played_channels n h = fed_channels (block_words channels input) (block_feeds channels input) u n h

  pub played_shaped : (n : ℕ) → Shaped channels u → Shaped channels (played channels u input n)
  played_shaped n s = fed_shaped (block_words channels input) (block_feeds channels input) u n s

  pub sound-length : (n : ℕ) → length u.channels ≡ channels → length (sound channels u input n) ≡ frame_size channels * n
  sound-length n h = fed_length (block_words channels input) (block_feeds channels input) u n h

-- One channel of so many frames: it stays fit, frames one behind the other are frames, and what the stores of two columns change.
use mathlib.Core.Path.{◌≡◌, refl, sym, ap, ap₂, ◌∙◌, subst}
use mathlib.Core.Bool.{Bool, true, false}
use mathlib.Core.List.{List}
use Prim.Native.Nat.{ℕ, zero, suc, ◌+◌, ◌*◌, ◌≤◌, ◌<◌}
use native.Mathlib.Nat.{mul-add, mul-le-mul_left, le_trans}
use native.Mathlib.Omega.{arith}
use lib.Dec.{eqb}
use lib.IntN.{ℤ, nat_abs}
use lib.ListN.{length, get_or, set, length-set}
use lib.Seq.{get_or-set_same, get_or-set_other}
use borrow.Author.Tests.{eqb-true, eqb-false}
use Rattle.bands.specs.declared.Band.{Band}
use Rattle.levels.specs.declared.Level.{Level}
use Rattle.levels.specs.Levels.{volume_slope, moved}
use Rattle.unit.specs.declared.Channel.{Channel}
use Rattle.unit.specs.Frame.{feeds_back, channel_frame, exact_mix}
use Rattle.unit.specs.Fit.{is_input, VolumeFit, ChannelFit}
use Rattle.unit.proofs.Mix.{share_size, exact_mix-size}
use Rattle.unit.proofs.Ranges.{input_size}
use Rattle.unit.proofs.Shaped.{frame_sections}
use Rattle.unit.proofs.Stays.{channel_stays, volume_stays}
use Rattle.frames.specs.Bytes.{low_byte, high_byte}
use Rattle.frames.specs.Column.{volume_played, channel_played, put_sample, columns_stored}

-- ---- the volume and a channel

pub volume_fit : (v : Level) (n : ℕ) → VolumeFit v → VolumeFit (volume_played v n)
unfolding volume_played
volume_fit v zero f = f
volume_fit v (suc n) f =
    record { present = volume_stays (volume_played v n) (volume_fit v n f); target = (volume_fit v n f).target }

-- n frames behind the first m
pub volume_behind : (v : Level) (m n : ℕ) → volume_played (volume_played v m) n ≡ volume_played v (n + m)
unfolding volume_played
volume_behind v m zero = ap (volume_played v) none_and
  where
    none_and : m ≡ 0 + m
    none_and = omega arith
volume_behind v m (suc n) = ap (moved volume_slope) (volume_behind v m n) ∙ ap (volume_played v) one_more
  where
    one_more : suc (n + m) ≡ suc n + m
    one_more = omega arith

module _ (bands : List Band) (xs : ℕ → ℤ) (c : Channel) where
  pub channel_fit : (n : ℕ) → ((k : ℕ) → k < n → is_input (xs k) ≡ true) → ChannelFit c → ChannelFit (channel_played bands xs c n)
  unfolding channel_played
  channel_fit zero i f = f
  channel_fit (suc n) i f = channel_stays bands (xs n) (channel_played bands xs c n) (i n (omega arith)) (channel_fit n (λ k h. i k (omega (arith, h))) f)

  pub channel_behind : (m n : ℕ) → channel_played bands (λ k. xs (k + m)) (channel_played bands xs c m) n ≡ channel_played bands xs c (n + m)
  unfolding channel_played
  channel_behind m zero = ap (channel_played bands xs c) none_and
    where
      none_and : m ≡ 0 + m
      none_and = omega arith
  channel_behind m (suc n) = ap (channel_frame bands (xs (n + m))) (channel_behind m n) ∙ ap (channel_played bands xs c) one_more
    where
      one_more : suc (n + m) ≡ suc n + m
      one_more = omega arith

  -- a section for each band stays
  pub channel_sections : (n : ℕ) → length c.sections ≡ length bands → length (channel_played bands xs c n).sections ≡ length bands
  unfolding channel_played channel_frame
  channel_sections zero h = h
  channel_sections (suc n) h =
      frame_sections feeds_back bands (xs n) (channel_played bands xs c n).x2 (channel_played bands xs c n).sections (channel_sections n h)

  -- T is small where the words are
  pub total_size_lem : (n : ℕ) → length c.sections ≡ length bands → ((k : ℕ) → k < suc n → is_input (xs k) ≡ true) → ChannelFit c → nat_abs (exact_mix (channel_played bands xs c (suc n))) ≤ suc (length bands) * share_size
  total_size_lem n h i f =
      le_trans (exact_mix-size after (input_size after.x1 fit.x1) fit.sections) (omega (arith, channel_sections (suc n) h))
    where
      after : Channel
      after = channel_played bands xs c (suc n)

      fit : ChannelFit after
      fit = channel_fit (suc n) i f

  -- only the words of the first n frames count
  pub channel_same : (ys : ℕ → ℤ) (n : ℕ) → ((k : ℕ) → k < n → xs k ≡ ys k) → channel_played bands xs c n ≡ channel_played bands ys c n
  unfolding channel_played
  channel_same ys zero e = refl
  channel_same ys (suc n) e = ap₂ (channel_frame bands) (e n (omega arith)) (channel_same ys n (λ k h. e k (omega (arith, h))))

-- ---- a sample stored

module _ (l : List ℕ) (at : ℕ) (s : ℤ) where
  pub sample_length : length (put_sample l at s) ≡ length l
  sample_length = length-set (set l at (low_byte s)) (at + 1) (high_byte s) ∙ length-set l at (low_byte s)

  pub sample_low_lem : at < length l → get_or (put_sample l at s) at 0 ≡ low_byte s
  sample_low_lem h =
      get_or-set_other (set l at (low_byte s)) (at + 1) at (high_byte s) 0 (λ e. omega arith) ∙ get_or-set_same l at (low_byte s) 0 h

  pub sample_high_lem : at + 1 < length l → get_or (put_sample l at s) (at + 1) 0 ≡ high_byte s
  sample_high_lem h = get_or-set_same (set l at (low_byte s)) (at + 1) (high_byte s) 0 (omega (arith, length-set l at (low_byte s)))

  pub sample_outside : (j : ℕ) → (at ≤ j → j < at + 2 → ⊥) → get_or (put_sample l at s) j 0 ≡ get_or l j 0
  sample_outside j a =
      get_or-set_other (set l at (low_byte s)) (at + 1) j (high_byte s) 0 (λ e. a (omega arith) (omega arith))
      ∙ get_or-set_other l at j (low_byte s) 0 (λ e. a (omega arith) (omega arith))

-- ---- two columns stored

module _ (size at : ℕ) (first second : ℕ → ℤ) (room : List ℕ) where
  pub stored_length : (n : ℕ) → length (columns_stored size at first second room n) ≡ length room
  unfolding columns_stored
  stored_length zero = refl
  stored_length (suc n) =
      sample_length (put_sample (columns_stored size at first second room n) (size * n + at) (first n)) (size * n + (at + 2)) (second n)
      ∙ sample_length (columns_stored size at first second room n) (size * n + at) (first n)
      ∙ stored_length n

  -- what lies in none of the frames' places is as it was
  pub stored_outside : (n j : ℕ) → ((k : ℕ) → k < n → size * k + at ≤ j → j < size * k + (at + 4) → ⊥) → get_or (columns_stored size at first second room n) j 0 ≡ get_or room j 0
  unfolding columns_stored
  stored_outside zero j a = refl
  stored_outside (suc n) j a =
      sample_outside (put_sample (columns_stored size at first second room n) (size * n + at) (first n)) (size * n + (at + 2)) (second n) j (λ p q. a n (omega arith) (omega (arith, p)) (omega (arith, q)))
      ∙ sample_outside (columns_stored size at first second room n) (size * n + at) (first n) j (λ p q. a n (omega arith) (omega (arith, p)) (omega (arith, q)))
      ∙ stored_outside n j (λ k h. a k (omega (arith, h)))

  -- in the places of frame k stand the bytes of its samples
  pub record Stored (out : List ℕ) (k : ℕ) : Type 0 where
    pub first_low : get_or out (size * k + at) 0 ≡ low_byte (first k)
    pub first_high : get_or out (size * k + at + 1) 0 ≡ high_byte (first k)
    pub second_low : get_or out (size * k + (at + 2)) 0 ≡ low_byte (second k)
    pub second_high : get_or out (size * k + (at + 2) + 1) 0 ≡ high_byte (second k)

  pub stored_inside : (n : ℕ) → 4 ≤ size → ((k : ℕ) → k < n → size * k + (at + 4) ≤ length room) → (k : ℕ) → k < n → Stored (columns_stored size at first second room n) k
  unfolding columns_stored
  stored_inside zero wide has k h = absurd (omega arith)
  stored_inside (suc n) wide has k h = go (eqb k n) refl (λ l. stored_inside n wide (λ i r. has i (omega (arith, r))) k l)
    where
      base : List ℕ
      base = columns_stored size at first second room n

      one : List ℕ
      one = put_sample base (size * n + at) (first n)

      two : List ℕ
      two = put_sample one (size * n + (at + 2)) (second n)

      base_length : length base ≡ length room
      base_length = stored_length n

      one_length : length one ≡ length room
      one_length = sample_length base (size * n + at) (first n) ∙ base_length

      room_has : size * n + (at + 4) ≤ length room
      room_has = has n (omega arith)

      last : Stored two n
      last =
          record {
            first_low = sample_outside one (size * n + (at + 2)) (second n) (size * n + at) (λ p q. omega arith) ∙ sample_low_lem base (size * n + at) (first n) (omega (arith, base_length, room_has));
            first_high = sample_outside one (size * n + (at + 2)) (second n) (size * n + at + 1) (λ p q. omega arith) ∙ sample_high_lem base (size * n + at) (first n) (omega (arith, base_length, room_has));
            second_low = sample_low_lem one (size * n + (at + 2)) (second n) (omega (arith, one_length, room_has));
            second_high = sample_high_lem one (size * n + (at + 2)) (second n) (omega (arith, one_length, room_has));
          }

      -- an earlier frame's places lie ahead
      earlier : k < n → Stored base k → Stored two k
      earlier l before =
          record {
            first_low = kept (size * k + at) (omega arith) ∙ before.first_low;
            first_high = kept (size * k + at + 1) (omega arith) ∙ before.first_high;
            second_low = kept (size * k + (at + 2)) (omega arith) ∙ before.second_low;
            second_high = kept (size * k + (at + 2) + 1) (omega arith) ∙ before.second_high;
          }
        where
          ahead : size * suc k ≤ size * n
          ahead = mul-le-mul_left size l

          kept : (j : ℕ) → j < size * k + (at + 4) → get_or two j 0 ≡ get_or base j 0
          kept j r =
              sample_outside one (size * n + (at + 2)) (second n) j (λ p q. omega (arith, ahead, wide, r, p))
              ∙ sample_outside base (size * n + at) (first n) j (λ p q. omega (arith, ahead, wide, r, p))

      go : (t : Bool) → eqb k n ≡ t → (k < n → Stored base k) → Stored two k
      go true e before = subst (λ (i : ℕ). Stored two i) (sym (eqb-true k n e)) last
      go false e before = earlier (omega (arith, h, eqb-false k n e)) (before (omega (arith, h, eqb-false k n e)))

-- columns of n frames stored behind those of the first m
pub stored_behind : (size at : ℕ) (first second : ℕ → ℤ) (room : List ℕ) (m n : ℕ) → columns_stored size (size * m + at) (λ k. first (k + m)) (λ k. second (k + m)) (columns_stored size at first second room m) n ≡ columns_stored size at first second room (n + m)
unfolding columns_stored
stored_behind size at first second room m zero = ap (columns_stored size at first second room) none_and
  where
    none_and : m ≡ 0 + m
    none_and = omega arith
stored_behind size at first second room m (suc n) =
    (λ i. put_sample (put_sample (stored_behind size at first second room m n i) (place at i) (first (n + m))) (next i) (second (n + m)))
    ∙ ap (columns_stored size at first second room) one_more
  where
    place : (a : ℕ) → size * n + (size * m + a) ≡ size * (n + m) + a
    place a = omega (arith, mul-add size n m)

    next : size * n + (size * m + at + 2) ≡ size * (n + m) + (at + 2)
    next = omega (arith, mul-add size n m)

    one_more : suc (n + m) ≡ suc n + m
    one_more = omega arith

-- the same samples make the same bytes
pub stored_same : (size at : ℕ) (first second first' second' : ℕ → ℤ) (room : List ℕ) (n : ℕ) → ((k : ℕ) → k < n → first k ≡ first' k) → ((k : ℕ) → k < n → second k ≡ second' k) → columns_stored size at first second room n ≡ columns_stored size at first' second' room n
unfolding columns_stored
stored_same size at first second first' second' room zero e f = refl
stored_same size at first second first' second' room (suc n) e f =
    λ i. put_sample (put_sample (stored_same size at first second first' second' room n (λ k h. e k (omega (arith, h))) (λ k h. f k (omega (arith, h))) i) (size * n + at) (e n (omega arith) i)) (size * n + (at + 2)) (f n (omega arith) i)

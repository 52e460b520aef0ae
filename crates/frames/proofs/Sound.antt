-- The sound of all pairs, stored column by column, is the sound of the frames.
use mathlib.Core.Path.{◌≡◌, refl, sym, ap, ap₂, ◌∙◌, subst}
use mathlib.Core.Bool.{Bool, true, false}
use mathlib.Core.List.{List, [], ◌∷◌, ◌++◌}
use Prim.Native.Nat.{ℕ, zero, suc, ◌+◌, ◌*◌, ◌≤◌, ◌<◌}
use native.Mathlib.Nat.{mul-suc, mul-le-mul_left}
use native.Mathlib.Omega.{arith}
use lib.Dec.{ltb, eqb}
use lib.IntN.{ℤ, pos}
use lib.ListN.{length, get_or, take, drop, length-drop, length-map, take-append-drop}
use lib.Seq.{take-add, get_or-take, get_or-drop, ext_get_or, length-take-le}
use borrow.Author.Tests.{ltb-true, ltb-false, eqb-true, eqb-false}
use Rattle.unit.specs.declared.Channel.{Channel}
use Rattle.unit.specs.declared.Unit.{Unit}
use Rattle.unit.specs.Frame.{mix, output, heard}
use Rattle.frames.specs.Bytes.{low_byte, high_byte, bytes_of}
use Rattle.frames.specs.Played.{played_on, sound_on}
use Rattle.frames.specs.Column.{columns_stored}
use Rattle.frames.proofs.Column.{Stored, stored_length, stored_outside, stored_inside}

-- ---- the samples of a frame as bytes, two by two

-- in these bytes stand two samples
pub record TwoSamples (l : List ℕ) (at : ℕ) (a b : ℤ) : Type 0 where
  pub first_low : get_or l at 0 ≡ low_byte a
  pub first_high : get_or l (at + 1) 0 ≡ high_byte a
  pub second_low : get_or l (at + 2) 0 ≡ low_byte b
  pub second_high : get_or l (at + 3) 0 ≡ high_byte b

bytes_are : (pairs : ℕ) (zs : List ℤ) (l : List ℕ) → length zs ≡ 2 * pairs → length l ≡ 4 * pairs → ((q : ℕ) → q < pairs → TwoSamples l (4 * q) (get_or zs (2 * q) (pos 0)) (get_or zs (2 * q + 1) (pos 0))) → l ≡ bytes_of zs
bytes_are zero [] [] h k e = refl
bytes_are zero [] (a ∷ l) h k e = absurd (omega arith)
bytes_are zero (z ∷ zs) l h k e = absurd (omega arith)
bytes_are (suc pairs) [] l h k e = absurd (omega arith)
bytes_are (suc pairs) (z ∷ []) l h k e = absurd (omega arith)
bytes_are (suc pairs) (y ∷ z ∷ zs) [] h k e = absurd (omega arith)
bytes_are (suc pairs) (y ∷ z ∷ zs) (a ∷ []) h k e = absurd (omega arith)
bytes_are (suc pairs) (y ∷ z ∷ zs) (a ∷ b ∷ []) h k e = absurd (omega arith)
bytes_are (suc pairs) (y ∷ z ∷ zs) (a ∷ b ∷ c ∷ []) h k e = absurd (omega arith)
bytes_are (suc pairs) (y ∷ z ∷ zs) (a ∷ b ∷ c ∷ d ∷ l) h k e =
    λ i. (e 0 (omega arith)).first_low i ∷ (e 0 (omega arith)).first_high i ∷ (e 0 (omega arith)).second_low i ∷ (e 0 (omega arith)).second_high i ∷ bytes_are pairs zs l (omega arith) (omega arith) rest i
  where
    shift : (m n r : ℕ) → m ≡ suc (suc (suc (suc n))) → n ≡ r → get_or (a ∷ b ∷ c ∷ d ∷ l) m 0 ≡ get_or l r 0
    shift m n r p q = ap (λ (j : ℕ). get_or (a ∷ b ∷ c ∷ d ∷ l) j 0) p ∙ ap (λ (j : ℕ). get_or l j 0) q

    sample : (m n : ℕ) → m ≡ suc (suc n) → get_or (y ∷ z ∷ zs) m (pos 0) ≡ get_or zs n (pos 0)
    sample m n p = ap (λ (j : ℕ). get_or (y ∷ z ∷ zs) j (pos 0)) p

    rest : (q : ℕ) → q < pairs → TwoSamples l (4 * q) (get_or zs (2 * q) (pos 0)) (get_or zs (2 * q + 1) (pos 0))
    rest q r =
        record {
          first_low = sym (shift (4 * suc q) (4 * q) (4 * q) (omega arith) refl) ∙ (e (suc q) (omega arith)).first_low ∙ ap low_byte (sample (2 * suc q) (2 * q) (omega arith));
          first_high = sym (shift (4 * suc q + 1) (4 * q + 1) (4 * q + 1) (omega arith) refl) ∙ (e (suc q) (omega arith)).first_high ∙ ap high_byte (sample (2 * suc q) (2 * q) (omega arith));
          second_low = sym (shift (4 * suc q + 2) (4 * q + 2) (4 * q + 2) (omega arith) refl) ∙ (e (suc q) (omega arith)).second_low ∙ ap low_byte (sample (2 * suc q + 1) (2 * q + 1) (omega arith));
          second_high = sym (shift (4 * suc q + 3) (4 * q + 3) (4 * q + 3) (omega arith) refl) ∙ (e (suc q) (omega arith)).second_high ∙ ap high_byte (sample (2 * suc q + 1) (2 * q + 1) (omega arith));
        }

-- ---- bytes that hold the samples of every frame are the sound

module _ (words : ℕ → List ℤ) (u : Unit) (pairs : ℕ) (width : (n : ℕ) → length (played_on words u n).channels ≡ 2 * pairs) where
  abbrev size : ℕ
  size = 2 * (2 * pairs)

  -- what is heard of channel c in frame k
  abbrev pub heard_in : ℕ → ℕ → ℤ
  heard_in k c = get_or (heard (played_on words u (suc k))) c (pos 0)

  abbrev pub HoldsSound : List ℕ → ℕ → Type 0
  HoldsSound out n = (k : ℕ) → k < n → (q : ℕ) → q < pairs → TwoSamples out (size * k + 4 * q) (heard_in k (2 * q)) (heard_in k (2 * q + 1))

  sound_front : (out : List ℕ) (n : ℕ) → size * n ≤ length out → HoldsSound out n → take (size * n) out ≡ sound_on words u n
  unfolding sound_on
  sound_front out zero r e = ap (λ (m : ℕ). take m out) none
    where
      none : size * 0 ≡ 0
      none = omega arith
  sound_front out (suc n) r e =
      ap (λ (m : ℕ). take m out) (mul-suc size n)
      ∙ take-add (size * n) size out
      ∙ ap₂ ◌++◌ (sound_front out n (omega (arith, r, mul-suc size n)) (λ k h. e k (omega (arith, h)))) frame
    where
      part : List ℕ
      part = take size (drop (size * n) out)

      part_length : length part ≡ 4 * pairs
      part_length = length-take-le size (drop (size * n) out) (omega (arith, length-drop (size * n) out, r, mul-suc size n)) ∙ omega arith

      inside : (j : ℕ) → j < size → get_or part j 0 ≡ get_or out (size * n + j) 0
      inside j h = get_or-take size (drop (size * n) out) j 0 h ∙ get_or-drop (size * n) out j 0

      place : (a b : ℕ) → size * n + (a + b) ≡ size * n + a + b
      place a b = omega arith

      frame : part ≡ bytes_of (heard (played_on words u (suc n)))
      frame =
          bytes_are pairs (heard (played_on words u (suc n))) part
          (length-map (played_on words u (suc n)).channels (λ (c : Channel). output (played_on words u (suc n)).volume.present (mix c)) ∙ width (suc n))
          part_length
          (λ q h. record {
            first_low = inside (4 * q) (omega arith) ∙ (e n (omega arith) q h).first_low;
            first_high = inside (4 * q + 1) (omega arith) ∙ ap (λ (j : ℕ). get_or out j 0) (place (4 * q) 1) ∙ (e n (omega arith) q h).first_high;
            second_low = inside (4 * q + 2) (omega arith) ∙ ap (λ (j : ℕ). get_or out j 0) (place (4 * q) 2) ∙ (e n (omega arith) q h).second_low;
            second_high = inside (4 * q + 3) (omega arith) ∙ ap (λ (j : ℕ). get_or out j 0) (place (4 * q) 3) ∙ (e n (omega arith) q h).second_high;
          })

  -- with the bytes beyond as they were
  pub sound_is : (out room : List ℕ) (n : ℕ) → length out ≡ length room → size * n ≤ length room → HoldsSound out n → ((j : ℕ) → size * n ≤ j → get_or out j 0 ≡ get_or room j 0) → out ≡ sound_on words u n ++ drop (size * n) room
  sound_is out room n same r e beyond =
      sym (take-append-drop (size * n) out)
      ∙ ap₂ ◌++◌ (sound_front out n (omega (arith, r, same)) e)
      (ext_get_or 0 (drop (size * n) out) (drop (size * n) room) (omega (arith, length-drop (size * n) out, length-drop (size * n) room, same))
      (λ j h. get_or-drop (size * n) out j 0 ∙ beyond (size * n + j) (omega arith) ∙ sym (get_or-drop (size * n) room j 0)))

-- ---- all pairs, one column behind the other

module _ (pairs : ℕ) (first second : ℕ → ℕ → ℤ) (room : List ℕ) (count : ℕ) where
  abbrev wide : ℕ
  wide = 2 * (2 * pairs)

  -- the first p pairs stored; sample k of pair q is first q k and second q k
  unfoldable pub pairs_stored : ℕ → List ℕ
  pairs_stored zero = room
  pairs_stored (suc p) = columns_stored wide (4 * p) (first p) (second p) (pairs_stored p) count

  pub pairs_length : (p : ℕ) → length (pairs_stored p) ≡ length room
  unfolding pairs_stored
  pairs_length zero = refl
  pairs_length (suc p) = stored_length wide (4 * p) (first p) (second p) (pairs_stored p) count ∙ pairs_length p

  -- a place in frame k, of another pair than p, is none of pair p's places
  elsewhere : (p q k r i : ℕ) → p < pairs → q < pairs → (q ≡ p → ⊥) → r < 4 → wide * i + 4 * p ≤ wide * k + 4 * q + r → wide * k + 4 * q + r < wide * i + (4 * p + 4) → ⊥
  elsewhere p q k r i hp hq other hr a b = go (ltb k i) (ltb i k) refl refl
    where
      go : (s t : Bool) → ltb k i ≡ s → ltb i k ≡ t → ⊥
      go true t e f = absurd (omega (arith, a, hq, hr, mul-le-mul_left wide (ltb-true k i e), mul-suc wide k))
      go false true e f = absurd (omega (arith, b, hp, mul-le-mul_left wide (ltb-true i k f), mul-suc wide i))
      go false false e f = other (omega (arith, same, a, b, hr))
        where
          same : wide * i ≡ wide * k
          same = ap (λ (n : ℕ). wide * n) (omega (arith, ltb-false k i e, ltb-false i k f))

  module _ (has : (p : ℕ) → p < pairs → (k : ℕ) → k < count → wide * k + (4 * p + 4) ≤ length room) where
    -- each pair's samples stand in their places
    pub pairs_inside : (p : ℕ) → p ≤ pairs → (q : ℕ) → q < p → (k : ℕ) → k < count → TwoSamples (pairs_stored p) (wide * k + 4 * q) (first q k) (second q k)
    unfolding pairs_stored
    pairs_inside zero most q h k l = absurd (omega arith)
    pairs_inside (suc p) most q h k l = go (eqb q p) refl (λ r. pairs_inside p (omega (arith, most)) q r k l)
      where
        after : List ℕ
        after = columns_stored wide (4 * p) (first p) (second p) (pairs_stored p) count

        here : Stored wide (4 * p) (first p) (second p) (pairs_stored p) after k
        here = stored_inside wide (4 * p) (first p) (second p) (pairs_stored p) count (omega (arith, most)) (λ i r. omega (arith, has p most i r, pairs_length p)) k l

        place : (n : ℕ) → wide * k + (4 * p + 2) + n ≡ wide * k + 4 * p + (2 + n)
        place n = omega arith

        last : TwoSamples after (wide * k + 4 * p) (first p k) (second p k)
        last =
            record {
              first_low = here.first_low;
              first_high = here.first_high;
              second_low = ap (λ (j : ℕ). get_or after j 0) (omega arith) ∙ here.second_low;
              second_high = ap (λ (j : ℕ). get_or after j 0) (sym (place 1)) ∙ here.second_high;
            }

        kept : (q ≡ p → ⊥) → q < pairs → (r : ℕ) → r < 4 → get_or after (wide * k + 4 * q + r) 0 ≡ get_or (pairs_stored p) (wide * k + 4 * q + r) 0
        kept other hq r hr = stored_outside wide (4 * p) (first p) (second p) (pairs_stored p) count (wide * k + 4 * q + r) (λ i s. elsewhere p q k r i most hq other hr)

        none : (n : ℕ) → n + 0 ≡ n
        none n = omega arith

        go : (t : Bool) → eqb q p ≡ t → (q < p → TwoSamples (pairs_stored p) (wide * k + 4 * q) (first q k) (second q k)) → TwoSamples after (wide * k + 4 * q) (first q k) (second q k)
        go true e before = subst (λ (i : ℕ). TwoSamples after (wide * k + 4 * i) (first i k) (second i k)) (sym (eqb-true q p e)) last
        go false e before =
            record {
              first_low = ap (λ (j : ℕ). get_or after j 0) (sym (none (wide * k + 4 * q))) ∙ kept other hq 0 (omega arith) ∙ ap (λ (j : ℕ). get_or (pairs_stored p) j 0) (none (wide * k + 4 * q)) ∙ old.first_low;
              first_high = kept other hq 1 (omega arith) ∙ old.first_high;
              second_low = kept other hq 2 (omega arith) ∙ old.second_low;
              second_high = kept other hq 3 (omega arith) ∙ old.second_high;
            }
          where
            other : q ≡ p → ⊥
            other = eqb-false q p e

            less : q < p
            less = omega (arith, h, eqb-false q p e)

            hq : q < pairs
            hq = omega (arith, less, most)

            old : TwoSamples (pairs_stored p) (wide * k + 4 * q) (first q k) (second q k)
            old = before less

  -- and the bytes beyond all frames are as they were
  pub pairs_beyond : (p : ℕ) → p ≤ pairs → (j : ℕ) → wide * count ≤ j → get_or (pairs_stored p) j 0 ≡ get_or room j 0
  unfolding pairs_stored
  pairs_beyond zero most j h = refl
  pairs_beyond (suc p) most j h =
      stored_outside wide (4 * p) (first p) (second p) (pairs_stored p) count j (λ i r a b. omega (arith, h, b, most, mul-le-mul_left wide r, mul-suc wide i))
      ∙ pairs_beyond p (omega (arith, most)) j h

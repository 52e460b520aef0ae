-- Pairs one behind the other: their floats, their channels, and the channels of so many frames, one by one.
use mathlib.Core.Path.{◌≡◌, refl, sym, ap, ap₂, ◌∙◌, subst}
use mathlib.Core.Bool.{Bool, true, false}
use mathlib.Core.List.{List, [], ◌∷◌, ◌++◌}
use Prim.Native.Nat.{ℕ, zero, suc, ◌+◌, ◌-◌, ◌*◌, ◌≤◌, ◌<◌}
use native.Mathlib.Omega.{arith}
use lib.Dec.{ltb}
use borrow.Author.Tests.{ltb-true, ltb-false}
use lib.IntN.{ℤ, pos}
use lib.ListN.{length, get_or, take, drop, length-append, length-drop, get_or-append}
use lib.Seq.{get_or-take, get_or-drop, get_or-append-add, drop-drop, length-take-le}
use lib.Ieee.{Float, nan}
use Rattle.lists.proofs.Tabulate.{tabulate_cong}
use Rattle.bands.specs.Bands.{band_count}
use Rattle.bands.specs.declared.Band.{Band}
use Rattle.floats.specs.Whole.{whole_of}
use Rattle.levels.specs.Levels.{volume_slope, moved}
use Rattle.unit.specs.declared.Channel.{Channel}
use Rattle.unit.specs.declared.Unit.{Unit}
use Rattle.unit.specs.Frame.{channel_frame, unit_frame}
use Rattle.engine.specs.Floats.{float_at, WholeFloats, band_section_in}
use Rattle.engine.specs.Layout.{pair_floats, Side, first_side, second_side, section_at_side, channel_at_side, channels_in}
use Rattle.engine.proofs.Store.{IsWhole}
use Rattle.engine.proofs.Turns.{Inside}
use Rattle.frames.specs.Played.{played_on}
use Rattle.frames.specs.Column.{volume_played, channel_played}
use Rattle.frames.proofs.Many.{Feeds, fed_channels}
use Rattle.frames.proofs.Channel.{channel_at}

-- ---- whole floats

pub drop_whole : (n : ℕ) (l : List Float) → WholeFloats l → WholeFloats (drop n l)
drop_whole n l w k h = subst IsWhole (sym (get_or-drop n l k nan)) (w (n + k) (omega (arith, h, length-drop n l)))

pub take_whole : (n : ℕ) (l : List Float) → n ≤ length l → WholeFloats l → WholeFloats (take n l)
take_whole n l r w k h = subst IsWhole (sym (get_or-take n l k nan (omega (arith, h, length-take-le n l r)))) (w k (omega (arith, h, length-take-le n l r)))

pub append_whole : (a b : List Float) → WholeFloats a → WholeFloats b → WholeFloats (a ++ b)
append_whole a b v w k h = go (k - length a) (ltb k (length a)) refl refl
  where
    go : (j : ℕ) (t : Bool) → j ≡ k - length a → ltb k (length a) ≡ t → IsWhole (float_at (a ++ b) k)
    go j true e t = subst IsWhole (sym (get_or-append a b nan k (ltb-true k (length a) t))) (v k (ltb-true k (length a) t))
    go j false e t =
        subst (λ (i : ℕ). IsWhole (float_at (a ++ b) i)) back
        (subst IsWhole (sym (get_or-append-add a b j nan)) (w j (omega (arith, h, e, length-append a b, ltb-false k (length a) t))))
      where
        back : length a + j ≡ k
        back = omega (arith, e, ltb-false k (length a) t)

-- ---- a channel is read from its pair's floats alone

pub channel_front : (e : Side) → Inside e → (a b : List Float) → ((k : ℕ) → k < pair_floats → float_at a k ≡ float_at b k) → channel_at_side a e ≡ channel_at_side b e
channel_front e i a b h =
    λ r.
    record {
      x1 = whole_of (h e.x1 i.x1 r);
      x2 = whole_of (h e.x2 i.x2 r);
      flag = whole_of (h e.flag i.flag r);
      sections = tabulate_cong band_count same r;
    }
  where
    same : (b' : ℕ) → b' < band_count → section_at_side a e b' ≡ section_at_side b e b'
    same n l =
        λ r.
        band_section_in
        (record {
          y1 = h (e.section n) (omega (arith, i.section n l)) r;
          y2 = h (e.section n + 2) (omega (arith, i.section n l)) r;
          gain = record { present = h (e.section n + 4) (omega (arith, i.section n l)) r; target = h (e.section n + 6) (omega (arith, i.section n l)) r };
          remainder = h (e.section n + 8) (omega (arith, i.section n l)) r;
        })

-- ---- the channels of so many pairs

-- the floats from pair q on
abbrev pub pair_on : List Float → ℕ → List Float
pair_on l q = drop (pair_floats * q) l

next_pair : (l : List Float) (q : ℕ) → pair_on (drop pair_floats l) q ≡ pair_on l (suc q)
next_pair l q = drop-drop (pair_floats * q) pair_floats l ∙ ap (λ (n : ℕ). drop n l) place
  where
    place : pair_floats + pair_floats * q ≡ pair_floats * suc q
    place = omega arith

module _ (d : Channel) where
  pub first_at : (pairs : ℕ) (l : List Float) (q : ℕ) → q < pairs → get_or (channels_in pairs l) (2 * q) d ≡ channel_at_side (pair_on l q) first_side
  first_at zero l q h = absurd (omega arith)
  first_at (suc pairs) l zero h = refl
  first_at (suc pairs) l (suc q) h =
      ap (λ (n : ℕ). get_or (channels_in (suc pairs) l) n d) place
      ∙ first_at pairs (drop pair_floats l) q (omega arith)
      ∙ ap (λ (m : List Float). channel_at_side m first_side) (next_pair l q)
    where
      place : 2 * suc q ≡ suc (suc (2 * q))
      place = omega arith

  pub second_at : (pairs : ℕ) (l : List Float) (q : ℕ) → q < pairs → get_or (channels_in pairs l) (2 * q + 1) d ≡ channel_at_side (pair_on l q) second_side
  second_at zero l q h = absurd (omega arith)
  second_at (suc pairs) l zero h = refl
  second_at (suc pairs) l (suc q) h =
      ap (λ (n : ℕ). get_or (channels_in (suc pairs) l) n d) place
      ∙ second_at pairs (drop pair_floats l) q (omega arith)
      ∙ ap (λ (m : List Float). channel_at_side m second_side) (next_pair l q)
    where
      place : 2 * suc q + 1 ≡ suc (suc (2 * q + 1))
      place = omega arith

  -- channels that are those of the pairs, two by two
  pub channels_are : (pairs : ℕ) (l : List Float) (cs : List Channel) → length cs ≡ 2 * pairs → ((q : ℕ) → q < pairs → (get_or cs (2 * q) d ≡ channel_at_side (pair_on l q) first_side) × (get_or cs (2 * q + 1) d ≡ channel_at_side (pair_on l q) second_side)) → channels_in pairs l ≡ cs
  channels_are zero l [] h e = refl
  channels_are zero l (a ∷ cs) h e = absurd (omega arith)
  channels_are (suc pairs) l [] h e = absurd (omega arith)
  channels_are (suc pairs) l (a ∷ []) h e = absurd (omega arith)
  channels_are (suc pairs) l (a ∷ b ∷ cs) h e =
      λ i. sym (e 0 (omega arith)).0 i ∷ sym (e 0 (omega arith)).1 i ∷ channels_are pairs (drop pair_floats l) cs (omega arith) rest i
    where
      first_place : (q : ℕ) → suc (suc (2 * q)) ≡ 2 * suc q
      first_place q = omega arith

      second-place : (q : ℕ) → suc (suc (2 * q + 1)) ≡ 2 * suc q + 1
      second-place q = omega arith

      rest : (q : ℕ) → q < pairs → (get_or cs (2 * q) d ≡ channel_at_side (pair_on (drop pair_floats l) q) first_side) × (get_or cs (2 * q + 1) d ≡ channel_at_side (pair_on (drop pair_floats l) q) second_side)
      rest q k = (
        ap (λ (n : ℕ). get_or (a ∷ b ∷ cs) n d) (first_place q) ∙ (e (suc q) (omega arith)).0 ∙ ap (λ (m : List Float). channel_at_side m first_side) (sym (next_pair l q)),
        ap (λ (n : ℕ). get_or (a ∷ b ∷ cs) n d) (second-place q) ∙ (e (suc q) (omega arith)).1 ∙ ap (λ (m : List Float). channel_at_side m second_side) (sym (next_pair l q)),
      )

pub channels_length : (pairs : ℕ) (l : List Float) → length (channels_in pairs l) ≡ 2 * pairs
channels_length zero l = refl
channels_length (suc pairs) l = omega (arith, channels_length pairs (drop pair_floats l))

-- ---- one channel of so many frames

module _ (words : ℕ → List ℤ) (u : Unit) where
  pub played_volume : (n : ℕ) → (played_on words u n).volume ≡ volume_played u.volume n
  unfolding played_on unit_frame volume_played
  played_volume zero = refl
  played_volume (suc n) = ap (moved volume_slope) (played_volume n)

  pub played_bands : (n : ℕ) → (played_on words u n).bands ≡ u.bands
  unfolding played_on unit_frame
  played_bands zero = refl
  played_bands (suc n) = played_bands n

  pub played_one : {channels : ℕ} → Feeds channels words → length u.channels ≡ channels → (c : ℕ) (d : Channel) → c < channels → (n : ℕ) → get_or (played_on words u n).channels c d ≡ channel_played u.bands (λ k. get_or (words k) c (pos 0)) (get_or u.channels c d) n
  unfolding played_on unit_frame channel_played
  played_one feeds width c d h zero = refl
  played_one feeds width c d h (suc n) =
      channel_at (played_on words u n).bands (words n) (played_on words u n).channels c d (omega (arith, h, feeds.as_many n)) (omega (arith, h, fed_channels words feeds u n width))
      ∙ ap₂ (λ (bs : List Band) (a : Channel). channel_frame bs (get_or (words n) c (pos 0)) a) (played_bands n) (played_one feeds width c d h n)

-- Pair after pair, on lists: what each has of what it asks, and what all of them make of the unit and of the output.
use mathlib.Core.Path.{◌≡◌, refl, sym, ap, ap₂, ◌∙◌, subst}
use mathlib.Core.Bool.{Bool, true, false}
use mathlib.Core.List.{List, [], ◌∷◌, ◌++◌, append_assoc, append-nil}
use Prim.Native.Nat.{ℕ, zero, suc, ◌+◌, ◌-◌, ◌*◌, ◌≤◌, ◌<◌}
use native.Mathlib.Nat.{mul-suc, mul-le-mul_left}
use native.Mathlib.Omega.{arith}
use lib.Dec.{eqb}
use lib.IntN.{ℤ, pos}
use lib.ListN.{length, get_or, take, drop, length-append, length-drop, length-map, drop_of_length-le, get_or-append, get_or-map}
use lib.Seq.{drop_at, take_at, drop-drop, get_or-take, get_or-drop, length-take-le}
use lib.Ieee.{Float, nan}
use borrow.Author.Tests.{eqb-true, eqb-false}
use borrow.Rule.Slice.PartMut.{put_mid}
use Rattle.lists.specs.Lists.{Each}
use Rattle.lists.proofs.Tabulate.{each_get_d}
use Rattle.bands.specs.declared.Band.{Band}
use Rattle.levels.specs.declared.Level.{Level}
use Rattle.unit.specs.declared.Channel.{Channel}
use Rattle.unit.specs.declared.Unit.{Unit}
use Rattle.unit.specs.Cleared.{cleared_channel}
use Rattle.unit.specs.Frame.{mix, output, heard}
use Rattle.unit.specs.Fit.{BandFit, ChannelFit}
use Rattle.engine.specs.declared.FloatLevel.{FloatLevel}
use Rattle.engine.specs.Floats.{float_at, WholeFloats, float_level, level_in}
use Rattle.engine.specs.Layout.{side_count, pair_floats, Side, first_side, second_side, bands_at_side, channel_at_side, channels_in}
use Rattle.engine.proofs.Carry.{level_back}
use Rattle.engine.proofs.Turns.{Inside, first_inside, second_inside}
use Rattle.frames.specs.Bytes.{word_at, frame_size}
use Rattle.frames.specs.Played.{played_on, block_words}
use Rattle.frames.specs.Column.{column_word, volume_played, channel_played, sample_heard, columns_stored}
use Rattle.frames.specs.Run.{PairFramesAsks, PairFramesGives, unit_in, FramesAsks, FramesGives}
use Rattle.frames.proofs.Many.{Feeds, block_feeds, fed_channels}
use Rattle.frames.proofs.Channel.{block_word}
use Rattle.frames.proofs.Column.{volume_fit, channel_same}
use Rattle.frames.proofs.Sides.{drop_whole, take_whole, append_whole, channel_front, pair_on, first_at, second_at, channels_are, channels_length, played_volume, played_bands, played_one}
use Rattle.frames.proofs.Sound.{TwoSamples, heard_in, sound_is, pairs_stored, pairs_length, pairs_inside, pairs_beyond}

-- an entry is read whatever stands for one past the end
any_default : {A : Type 0} (l : List A) (n : ℕ) (a b : A) → n < length l → get_or l n a ≡ get_or l n b
any_default [] n a b h = absurd (omega arith)
any_default (x ∷ l) zero a b h = refl
any_default (x ∷ l) (suc n) a b h = any_default l n a b (omega arith)

module _ (bands sides₀ : List Float) (pairs : ℕ) (volume : FloatLevel) (count : ℕ) (input room : List ℕ) where
  -- the bytes of a frame
  abbrev size : ℕ
  size = frame_size (side_count * pairs)

  abbrev V0 : Level
  V0 = level_in volume

  -- pair q's sides after k frames, and what is heard of them in frame k
  abbrev first_played : ℕ → ℕ → Channel
  first_played q k = channel_played (bands_at_side bands first_side) (column_word input size (4 * q)) (channel_at_side (pair_on sides₀ q) first_side) k

  abbrev second_played : ℕ → ℕ → Channel
  second_played q k = channel_played (bands_at_side bands second_side) (column_word input size (4 * q + 2)) (channel_at_side (pair_on sides₀ q) second_side) k

  abbrev first_heard : ℕ → ℕ → ℤ
  first_heard q = sample_heard V0 (bands_at_side bands first_side) (column_word input size (4 * q)) (channel_at_side (pair_on sides₀ q) first_side)

  abbrev second_heard : ℕ → ℕ → ℤ
  second_heard q = sample_heard V0 (bands_at_side bands second_side) (column_word input size (4 * q + 2)) (channel_at_side (pair_on sides₀ q) second_side)

  -- after p pairs: they stand in front
  pub record Paired (sides : List Float) (out : List ℕ) (level : FloatLevel) (p : ℕ) : Type 0 where
    pub most : p ≤ pairs
    pub front : List Float
    pub front_size : length front ≡ pair_floats * p
    pub front_whole : WholeFloats front
    pub split : sides ≡ front ++ pair_on sides₀ p
    pub first : (q : ℕ) → q < p → channel_at_side (pair_on front q) first_side ≡ first_played q count
    pub second : (q : ℕ) → q < p → channel_at_side (pair_on front q) second_side ≡ second_played q count
    pub level_is : 0 < p → level ≡ float_level (volume_played V0 count)
    pub bytes : out ≡ pairs_stored pairs first_heard second_heard room count p

  module _ (asks : FramesAsks bands sides₀ pairs volume count input room) where
    pub paired_begins : Paired sides₀ room volume 0
    unfolding pairs_stored
    paired_begins =
        record {
          most = omega arith;
          front = [];
          front_size = refl;
          front_whole = λ k h. absurd (omega arith);
          split = refl;
          first = λ q h. absurd (omega arith);
          second = λ q h. absurd (omega arith);
          level_is = λ h. absurd (omega arith);
          bytes = refl;
        }

    -- the samples of pair q stand within each frame
    in_frame : (q : ℕ) → q < pairs → (k : ℕ) → k < count → size * k + (4 * q + 4) ≤ size * count
    in_frame q h k l = omega (arith, h, mul-le-mul_left size l, mul-suc size k)

    fits : Each ChannelFit (channels_in pairs sides₀)
    fits = asks.fit.channels

    first_fit : (q : ℕ) → q < pairs → ChannelFit (channel_at_side (pair_on sides₀ q) first_side)
    first_fit q h =
        subst ChannelFit (first_at cleared_channel pairs sides₀ q h)
        (each_get_d ChannelFit (channels_in pairs sides₀) cleared_channel fits (2 * q) (omega (arith, h, channels_length pairs sides₀)))

    second_fit : (q : ℕ) → q < pairs → ChannelFit (channel_at_side (pair_on sides₀ q) second_side)
    second_fit q h =
        subst ChannelFit (second_at cleared_channel pairs sides₀ q h)
        (each_get_d ChannelFit (channels_in pairs sides₀) cleared_channel fits (2 * q + 1) (omega (arith, h, channels_length pairs sides₀)))

    -- ---- pair p

    module _ (sides : List Float) (out : List ℕ) (level : FloatLevel) (p : ℕ) (below : p < pairs) (i : Paired sides out level p) where
      enough : pair_floats * p + pair_floats ≤ length sides₀
      enough = omega (arith, below, asks.size)

      pub sides-length : length sides ≡ length sides₀
      sides-length =
          ap length i.split
          ∙ length-append i.front (pair_on sides₀ p)
          ∙ omega (arith, i.front_size, length-drop (pair_floats * p) sides₀, enough)

      pub out_length : length out ≡ length room
      out_length = ap length i.bytes ∙ pairs_length pairs first_heard second_heard room count p

      -- the part that is lent is the pair as it was
      abbrev part : List Float
      part = take (pair_floats * p + pair_floats - pair_floats * p) (drop (pair_floats * p) sides)

      cut : pair_floats * p + pair_floats - pair_floats * p ≡ pair_floats
      cut = omega arith

      behind : drop (pair_floats * p) sides ≡ pair_on sides₀ p
      behind = ap (drop (pair_floats * p)) i.split ∙ drop_at i.front (pair_on sides₀ p) (pair_floats * p) i.front_size

      part_is : part ≡ take pair_floats (pair_on sides₀ p)
      part_is = ap₂ take cut behind

      part_size : length (take pair_floats (pair_on sides₀ p)) ≡ pair_floats
      part_size = length-take-le pair_floats (pair_on sides₀ p) (omega (arith, length-drop (pair_floats * p) sides₀, enough))

      part_whole : WholeFloats (take pair_floats (pair_on sides₀ p))
      part_whole = take_whole pair_floats (pair_on sides₀ p) (omega (arith, length-drop (pair_floats * p) sides₀, enough)) (drop_whole (pair_floats * p) sides₀ asks.whole)

      part_channel : (e : Side) → Inside e → channel_at_side part e ≡ channel_at_side (pair_on sides₀ p) e
      part_channel e s = ap (λ (m : List Float). channel_at_side m e) part_is ∙ channel_front e s (take pair_floats (pair_on sides₀ p)) (pair_on sides₀ p) (λ k h. get_or-take pair_floats (pair_on sides₀ p) k nan h)

      pub pair_asks : PairFramesAsks bands part volume size (4 * p) count input out
      pair_asks =
          record {
            pair_fit =
                record {
                  bands_size = asks.bands_size;
                  bands_whole = asks.bands_whole;
                  size = ap length part_is ∙ part_size;
                  whole = subst WholeFloats (sym part_is) part_whole;
                  first_bands = asks.fit.bands;
                  second_bands = subst (Each BandFit) (sym asks.bands_same) asks.fit.bands;
                  first_fit = subst ChannelFit (sym (part_channel first_side first_inside)) (first_fit p below);
                  second_fit = subst ChannelFit (sym (part_channel second_side second_inside)) (second_fit p below);
                };
            volume_fit = record { whole = asks.volume_whole; fit = asks.fit.volume };
            input_has = λ k h. omega (arith, in_frame p below k h, asks.input_has);
            room_has = λ k h. omega (arith, in_frame p below k h, asks.room_has, out_length);
          }

      module _ (level' : FloatLevel) (after : List Float) (filled : List ℕ) (g : PairFramesGives bands part volume size (4 * p) count input out level' after filled) where
        -- the sides with this pair put back
        abbrev sides' : List Float
        sides' = put_mid (pair_floats * p) (pair_floats * p + pair_floats - pair_floats * p) sides after

        more : pair_floats * p + pair_floats ≡ pair_floats * suc p
        more = omega arith

        sides_split : sides' ≡ (i.front ++ after) ++ pair_on sides₀ (suc p)
        sides_split =
            ap₂ ◌++◌ (ap (take (pair_floats * p)) i.split ∙ take_at i.front (pair_on sides₀ p) (pair_floats * p) i.front_size) (ap (λ (r : List Float). after ++ r) rest)
            ∙ sym (append_assoc i.front after (pair_on sides₀ (suc p)))
          where
            rest : drop (pair_floats * p + pair_floats - pair_floats * p) (drop (pair_floats * p) sides) ≡ pair_on sides₀ (suc p)
            rest = ap₂ drop cut behind ∙ drop-drop pair_floats (pair_floats * p) sides₀ ∙ ap (λ (n : ℕ). drop n sides₀) more

        -- one side of each pair in front
        module _ (e : Side) (s : Inside e) (played : ℕ → Channel) where
          side_more : ((q : ℕ) → q < p → channel_at_side (pair_on i.front q) e ≡ played q) → channel_at_side after e ≡ played p → (q : ℕ) → q < suc p → channel_at_side (pair_on (i.front ++ after) q) e ≡ played q
          side_more before last q h = go (eqb q p) refl
            where
              ahead : (r : q < p) → (k : ℕ) → k < pair_floats → float_at (pair_on (i.front ++ after) q) k ≡ float_at (pair_on i.front q) k
              ahead r k l =
                  get_or-drop (pair_floats * q) (i.front ++ after) k nan
                  ∙ get_or-append i.front after nan (pair_floats * q + k) (omega (arith, l, i.front_size, r))
                  ∙ sym (get_or-drop (pair_floats * q) i.front k nan)

              go : (t : Bool) → eqb q p ≡ t → channel_at_side (pair_on (i.front ++ after) q) e ≡ played q
              go true t =
                  subst (λ (j : ℕ). channel_at_side (pair_on (i.front ++ after) j) e ≡ played j) (sym (eqb-true q p t))
                  (ap (λ (m : List Float). channel_at_side m e) (drop_at i.front after (pair_floats * p) i.front_size) ∙ last)
              go false t =
                  channel_front e s (pair_on (i.front ++ after) q) (pair_on i.front q) (ahead (omega (arith, h, eqb-false q p t)))
                  ∙ before q (omega (arith, h, eqb-false q p t))

        first_last : channel_at_side after first_side ≡ first_played p count
        first_last = g.first ∙ ap (λ (c : Channel). channel_played (bands_at_side bands first_side) (column_word input size (4 * p)) c count) (part_channel first_side first_inside)

        second_last : channel_at_side after second_side ≡ second_played p count
        second_last = g.second ∙ ap (λ (c : Channel). channel_played (bands_at_side bands second_side) (column_word input size (4 * p + 2)) c count) (part_channel second_side second_inside)

        pub paired_next : Paired sides' filled level' (suc p)
        unfolding pairs_stored
        paired_next =
            record {
              most = below;
              front = i.front ++ after;
              front_size = length-append i.front after ∙ omega (arith, i.front_size, g.size_is);
              front_whole = append_whole i.front after i.front_whole g.whole;
              split = sides_split;
              first = side_more first_side first_inside (λ q. first_played q count) i.first first_last;
              second = side_more second_side second_inside (λ q. second_played q count) i.second second_last;
              level_is = λ h. g.volume_is;
              bytes =
                  g.bytes
                  ∙ (λ r. columns_stored size (4 * p)
                  (sample_heard V0 (bands_at_side bands first_side) (column_word input size (4 * p)) (part_channel first_side first_inside r))
                  (sample_heard V0 (bands_at_side bands second_side) (column_word input size (4 * p + 2)) (part_channel second_side second_inside r))
                  (i.bytes r) count);
            }

    -- ---- after all pairs

    abbrev words : ℕ → List ℤ
    words = block_words (side_count * pairs) input

    abbrev u : Unit
    u = unit_in volume bands pairs sides₀

    feeds : Feeds (side_count * pairs) words
    feeds = block_feeds (side_count * pairs) input

    width : length u.channels ≡ side_count * pairs
    width = channels_length pairs sides₀

    widths : (n : ℕ) → length (played_on words u n).channels ≡ 2 * pairs
    widths n = fed_channels words feeds u n width

    -- the sides of pair q as two channels of the unit
    first_one : (q : ℕ) → q < pairs → (n : ℕ) → get_or (played_on words u n).channels (2 * q) cleared_channel ≡ first_played q n
    first_one q h n =
        played_one words u feeds width (2 * q) cleared_channel (omega (arith, h)) n
        ∙ channel_same (bands_at_side bands first_side) (λ k. get_or (words k) (2 * q) (pos 0)) (get_or (channels_in pairs sides₀) (2 * q) cleared_channel) (column_word input size (4 * q)) n (λ k r. block_word (side_count * pairs) input k (2 * q) (omega (arith, h)) ∙ ap (word_at input) (place_of (size * k)))
        ∙ ap (λ (c : Channel). channel_played (bands_at_side bands first_side) (column_word input size (4 * q)) c n) (first_at cleared_channel pairs sides₀ q h)
      where
        place_of : (m : ℕ) → m + 2 * (2 * q) ≡ m + 4 * q
        place_of m = omega arith

    second_one : (q : ℕ) → q < pairs → (n : ℕ) → get_or (played_on words u n).channels (2 * q + 1) cleared_channel ≡ second_played q n
    second_one q h n =
        played_one words u feeds width (2 * q + 1) cleared_channel (omega (arith, h)) n
        ∙ channel_same (bands_at_side bands first_side) (λ k. get_or (words k) (2 * q + 1) (pos 0)) (get_or (channels_in pairs sides₀) (2 * q + 1) cleared_channel) (column_word input size (4 * q + 2)) n (λ k r. block_word (side_count * pairs) input k (2 * q + 1) (omega (arith, h)) ∙ ap (word_at input) (place_of (size * k)))
        ∙ ap₂ (λ (b : List Band) (c : Channel). channel_played b (column_word input size (4 * q + 2)) c n) (sym asks.bands_same) (second_at cleared_channel pairs sides₀ q h)
      where
        place_of : (m : ℕ) → m + 2 * (2 * q + 1) ≡ m + (4 * q + 2)
        place_of m = omega arith

    -- what is heard of channel c in frame k
    heard_of : (k c : ℕ) (d : Channel) → c < side_count * pairs → get_or (played_on words u (suc k)).channels c cleared_channel ≡ d → output (volume_played V0 (suc k)).present (mix d) ≡ get_or (heard (played_on words u (suc k))) c (pos 0)
    heard_of k c d h e =
        sym
        (any_default (heard v) c (pos 0) (f cleared_channel) (omega (arith, h, length-map v.channels f, fed_channels words feeds u (suc k) width))
        ∙ get_or-map f v.channels c cleared_channel
        ∙ ap₂ (λ (l : Level) (a : Channel). output l.present (mix a)) (played_volume words u (suc k)) e)
      where
        v : Unit
        v = played_on words u (suc k)

        f : Channel → ℤ
        f a = output v.volume.present (mix a)

    module _ (sides : List Float) (out : List ℕ) (level : FloatLevel) (i : Paired sides out level pairs) where
      level_last : level ≡ float_level (volume_played V0 count)
      level_last = i.level_is asks.some

      level_whole : level_in level ≡ volume_played V0 count
      level_whole = ap level_in level_last ∙ level_back (volume_played V0 count) (volume_fit V0 count asks.fit.volume)

      sides_are : sides ≡ i.front
      sides_are = i.split ∙ ap (λ (r : List Float). i.front ++ r) (drop_of_length-le sides₀ {i = pair_floats * pairs} (omega (arith, asks.size))) ∙ append-nil i.front

      channels_last : channels_in pairs sides ≡ (played_on words u count).channels
      channels_last =
          channels_are cleared_channel pairs sides (played_on words u count).channels (fed_channels words feeds u count width)
          (λ q h. (
            first_one q h count ∙ sym (i.first q h) ∙ ap (λ (m : List Float). channel_at_side (pair_on m q) first_side) (sym sides_are),
            second_one q h count ∙ sym (i.second q h) ∙ ap (λ (m : List Float). channel_at_side (pair_on m q) second_side) (sym sides_are),
          ))

      two-samples : (k : ℕ) → k < count → (q : ℕ) → q < pairs → TwoSamples (pairs_stored pairs first_heard second_heard room count pairs) (size * k + 4 * q) (heard_in words u pairs widths k (2 * q)) (heard_in words u pairs widths k (2 * q + 1))
      two-samples k h q r =
          subst (λ (z : ℤ). TwoSamples (pairs_stored pairs first_heard second_heard room count pairs) (size * k + 4 * q) z (heard_in words u pairs widths k (2 * q + 1))) (heard_of k (2 * q) (first_played q (suc k)) (omega (arith, r)) (first_one q r (suc k)))
          (subst (λ (z : ℤ). TwoSamples (pairs_stored pairs first_heard second_heard room count pairs) (size * k + 4 * q) (first_heard q k) z) (heard_of k (2 * q + 1) (second_played q (suc k)) (omega (arith, r)) (second_one q r (suc k)))
          (pairs_inside pairs first_heard second_heard room count (λ p l j s. omega (arith, in_frame p l j s, asks.room_has)) pairs (omega arith) q r k h))

      pub paired_ends : FramesGives bands sides₀ pairs volume count input room level sides out
      paired_ends =
          record {
            volume_whole = level_last ∙ ap float_level (sym level_whole);
            size = ap length sides_are ∙ i.front_size;
            whole = subst WholeFloats (sym sides_are) i.front_whole;
            unit =
                λ r.
                record {
                  volume = (level_whole ∙ sym (played_volume words u count)) r;
                  bands = sym (played_bands words u count) r;
                  channels = channels_last r;
                };
            bytes =
                i.bytes
                ∙ sound_is words u pairs widths (pairs_stored pairs first_heard second_heard room count pairs) room count
                (pairs_length pairs first_heard second_heard room count pairs) asks.room_has two-samples
                (pairs_beyond pairs first_heard second_heard room count pairs (omega arith));
          }

-- The passes over a pair's frames, on lists: what each pass has of what it asks, and that passes one behind the other are one.
use mathlib.Core.Path.{◌≡◌, refl, sym, ap, ap₂, ◌∙◌, subst}
use mathlib.Core.Bool.{true}
use mathlib.Core.List.{List}
use Prim.Native.Nat.{ℕ, suc, ◌+◌, ◌*◌, ◌≤◌, ◌<◌}
use native.Mathlib.Nat.{mul-add, le_trans}
use native.Mathlib.Omega.{arith}
use lib.Dec.{lit≤}
use lib.IntN.{ℤ, nat_abs}
use lib.ListN.{length}
use lib.Ieee.{Float}
use Rattle.lists.proofs.Tabulate.{tabulate-length}
use Rattle.rounding.specs.Rounding.{nearest}
use Rattle.bands.specs.Bands.{band_count}
use Rattle.floats.specs.Whole.{float, whole_of}
use Rattle.levels.specs.declared.Level.{Level}
use Rattle.unit.specs.declared.Channel.{Channel}
use Rattle.unit.specs.Frame.{exact_mix, mix, output}
use Rattle.unit.specs.Fit.{is_input, VolumeFit, ChannelFit}
use Rattle.unit.proofs.Ranges.{input_size}
use Rattle.engine.specs.declared.FloatLevel.{FloatLevel}
use Rattle.engine.specs.declared.Sides.{Sides}
use Rattle.engine.specs.Floats.{Carries, float_at, WholeFloats, float_level, level_in}
use Rattle.engine.specs.Layout.{pair_floats, Side, first_side, second_side, band_at_side, section_at_side, bands_at_side, channel_at_side}
use Rattle.engine.specs.Frame.{total_size}
use Rattle.engine.proofs.Carry.{carries, whole_is, level_back}
use Rattle.frames.specs.Bytes.{word_at}
use Rattle.frames.specs.Column.{column_word, volume_played, channel_played, sample_heard, columns_stored}
use Rattle.frames.specs.Run.{pass_frames, pass_words, Columns, ReadWordsAsks, ReadWordsGives, first_words, second_words, InputFloat, PairFit, MixWordsAsks, SideMixed, MixWordsGives, VolumeFloat, PutSoundsAsks, total_heard, PutSoundsGives, PairFramesAsks, PairFramesGives}
use Rattle.frames.proofs.Bytes.{word_input}
use Rattle.frames.proofs.Column.{volume_fit, volume_behind, channel_fit, channel_behind, channel_same, total_size_lem, stored_length, stored_behind, stored_same}

-- after so many frames
pub record Passing (bands l : List Float) (volume : FloatLevel) (size at count : ℕ) (input room : List ℕ) (m : List Float) (out : List ℕ) (words : List Float) (level : FloatLevel) (done : ℕ) : Type 0 where
  pub most : done ≤ count
  pub words_size : length words ≡ pass_words
  pub size_is : length m ≡ pair_floats
  pub whole : WholeFloats m
  pub first : channel_at_side m first_side ≡ channel_played (bands_at_side bands first_side) (column_word input size at) (channel_at_side l first_side) done
  pub second : channel_at_side m second_side ≡ channel_played (bands_at_side bands second_side) (column_word input size (at + 2)) (channel_at_side l second_side) done
  pub level_is : level ≡ float_level (volume_played (level_in volume) done)
  pub bytes : out ≡ columns_stored size at (sample_heard (level_in volume) (bands_at_side bands first_side) (column_word input size at) (channel_at_side l first_side)) (sample_heard (level_in volume) (bands_at_side bands second_side) (column_word input size (at + 2)) (channel_at_side l second_side)) room done

-- the word of a pass is that of the frame
column_behind : (input : List ℕ) (size at done k : ℕ) → column_word input size (size * done + at) k ≡ column_word input size at (k + done)
column_behind input size at done k = ap (word_at input) (omega (arith, mul-add size k done))

second_behind : (input : List ℕ) (size at done k : ℕ) → column_word input size (size * done + at + 2) k ≡ column_word input size (at + 2) (k + done)
second_behind input size at done k = ap (word_at input) (omega (arith, mul-add size k done))

word_float : (input : List ℕ) (place : ℕ) (x : Float) → x ≡ float (word_at input place) → (whole_of x ≡ word_at input place) × InputFloat x
word_float input place x e = (back, record { whole = e ∙ ap float (sym back); input = subst (λ (z : ℤ). is_input z ≡ true) (sym back) (word_input input place) })
  where
    back : whole_of x ≡ word_at input place
    back = whole_is x (word_at input place) e (le_trans (input_size (word_at input place) (word_input input place)) (lit≤ tt))

module _ (bands l : List Float) (volume : FloatLevel) (size at count : ℕ) (input room : List ℕ) (asks : PairFramesAsks bands l volume size at count input room) where
  pub passing_begins : (words : List Float) → length words ≡ pass_words → Passing bands l volume size at count input room l room words volume 0
  unfolding volume_played channel_played columns_stored
  passing_begins words h =
      record {
        most = omega arith;
        words_size = h;
        size_is = asks.pair_fit.size;
        whole = asks.pair_fit.whole;
        first = refl;
        second = refl;
        level_is = asks.volume_fit.whole;
        bytes = refl;
      }

  module _ (m : List Float) (out : List ℕ) (words : List Float) (level : FloatLevel) (done : ℕ) (p : Passing bands l volume size at count input room m out words level done) (n : ℕ) (left : n + done ≤ count) (few : n ≤ pass_frames) where
    abbrev from : ℕ
    from = size * done + at

    columns_behind : (bytes : List ℕ) → Columns size at count bytes → Columns size from n bytes
    columns_behind bytes has k h = omega (arith, has (k + done) (omega (arith, h, left)), mul-add size k done)

    pub read_asks : ReadWordsAsks words input size from n
    read_asks = record { words_size = p.words_size; few = few; has = columns_behind input asks.input_has }

    -- one side's channel stays fit
    side_fit : (e : Side) (start : ℕ) → ChannelFit (channel_at_side l e) → channel_at_side m e ≡ channel_played (bands_at_side bands e) (column_word input size start) (channel_at_side l e) done → ChannelFit (channel_at_side m e)
    side_fit e start f c =
        subst ChannelFit (sym c) (channel_fit (bands_at_side bands e) (column_word input size start) (channel_at_side l e) done (λ k h. word_input input (size * k + start)) f)

    pair_fit : PairFit bands m
    pair_fit =
        record {
          bands_size = asks.pair_fit.bands_size;
          bands_whole = asks.pair_fit.bands_whole;
          size = p.size_is;
          whole = p.whole;
          first_bands = asks.pair_fit.first_bands;
          second_bands = asks.pair_fit.second_bands;
          first_fit = side_fit first_side at asks.pair_fit.first_fit p.first;
          second_fit = side_fit second_side (at + 2) asks.pair_fit.second_fit p.second;
        }

    module _ (w : List Float) (r : ReadWordsGives input size from n w) where
      first_word : (k : ℕ) → k < n → (first_words w k ≡ column_word input size at (k + done)) × InputFloat (float_at w (2 * k))
      first_word k h = (x.0 ∙ column_behind input size at done k, x.1)
        where
          x : (first_words w k ≡ word_at input (size * k + from)) × InputFloat (float_at w (2 * k))
          x = word_float input (size * k + from) (float_at w (2 * k)) (ap (λ (s : Sides Float). s.first) (r.words_are k h))

      second_word : (k : ℕ) → k < n → (second_words w k ≡ column_word input size (at + 2) (k + done)) × InputFloat (float_at w (2 * k + 1))
      second_word k h = (x.0 ∙ second_behind input size at done k, x.1)
        where
          x : (second_words w k ≡ word_at input (size * k + (from + 2))) × InputFloat (float_at w (2 * k + 1))
          x = word_float input (size * k + (from + 2)) (float_at w (2 * k + 1)) (ap (λ (s : Sides Float). s.second) (r.words_are k h))

      pub mix_asks : MixWordsAsks bands m w n
      mix_asks =
          record {
            pair_fit = pair_fit;
            words_size = r.words_size;
            few = few;
            first_inputs = λ k h. (first_word k h).1;
            second_inputs = λ k h. (second_word k h).1;
          }

      module _ (after totals : List Float) (g : MixWordsGives bands m w n after totals) where
        -- one side: its words are those of the frames behind the first
        module _ (e : Side) (xs : ℕ → ℤ) (ys : ℕ → ℤ) (t : ℕ → Float) (is : (k : ℕ) → k < n → ys k ≡ xs (k + done)) (inputs : (k : ℕ) → k < n → is_input (ys k) ≡ true) (fit : ChannelFit (channel_at_side m e)) (c : channel_at_side m e ≡ channel_played (bands_at_side bands e) xs (channel_at_side l e) done) (s : SideMixed bands m e ys n after t) where
          played_on_lem : (k : ℕ) → k ≤ n → channel_played (bands_at_side bands e) ys (channel_at_side m e) k ≡ channel_played (bands_at_side bands e) xs (channel_at_side l e) (k + done)
          played_on_lem k h =
              channel_same (bands_at_side bands e) ys (channel_at_side m e) (λ j. xs (j + done)) k (λ j i. is j (omega (arith, i, h)))
              ∙ ap (λ (d : Channel). channel_played (bands_at_side bands e) (λ j. xs (j + done)) d k) c
              ∙ channel_behind (bands_at_side bands e) xs (channel_at_side l e) done k

          side_next : channel_at_side after e ≡ channel_played (bands_at_side bands e) xs (channel_at_side l e) (n + done)
          side_next = s.channel ∙ played_on_lem n (omega arith)

          T-size : (k : ℕ) → k < n → nat_abs (exact_mix (channel_played (bands_at_side bands e) ys (channel_at_side m e) (suc k))) ≤ total_size
          T-size k h =
              le_trans
              (total_size_lem (bands_at_side bands e) ys (channel_at_side m e) k (tabulate-length band_count (section_at_side m e) ∙ sym (tabulate-length band_count (band_at_side bands e))) (λ j i. inputs j (omega (arith, i, h))) fit)
              (omega (arith, tabulate-length band_count (band_at_side bands e)))

          total_carries : (k : ℕ) → k < n → Carries (t k) total_size
          total_carries k h = carries (t k) (exact_mix (channel_played (bands_at_side bands e) ys (channel_at_side m e) (suc k))) (s.totals_are k h) (T-size k h) (lit≤ tt)

          -- what is heard of T is what is heard of the frame
          heard_is : (k : ℕ) → k < n → total_heard level (λ j. whole_of (t j)) k ≡ sample_heard (level_in volume) (bands_at_side bands e) xs (channel_at_side l e) (k + done)
          unfolding mix
          heard_is k h = ap₂ output (ap (λ (v : Level). v.present) volume_is) (ap (λ (z : ℤ). nearest z 23) total_is)
            where
              more : suc k + done ≡ suc (k + done)
              more = omega arith

              volume_is : volume_played (level_in level) (suc k) ≡ volume_played (level_in volume) (suc (k + done))
              volume_is =
                  ap (λ (v : Level). volume_played v (suc k)) (ap level_in p.level_is ∙ level_back (volume_played (level_in volume) done) (volume_fit (level_in volume) done asks.volume_fit.fit))
                  ∙ volume_behind (level_in volume) done (suc k)
                  ∙ ap (volume_played (level_in volume)) more

              total_is : whole_of (t k) ≡ exact_mix (channel_played (bands_at_side bands e) xs (channel_at_side l e) (suc (k + done)))
              total_is =
                  whole_is (t k) (exact_mix (channel_played (bands_at_side bands e) ys (channel_at_side m e) (suc k))) (s.totals_are k h) (le_trans (T-size k h) (lit≤ tt))
                  ∙ ap exact_mix (played_on_lem (suc k) h ∙ ap (channel_played (bands_at_side bands e) xs (channel_at_side l e)) more)

        first_fit : ChannelFit (channel_at_side m first_side)
        first_fit = pair_fit.first_fit

        second_fit : ChannelFit (channel_at_side m second_side)
        second_fit = pair_fit.second_fit

        volume_float : VolumeFloat level
        volume_float =
            subst VolumeFloat (sym p.level_is)
            (record {
              whole = ap float_level (sym (level_back (volume_played (level_in volume) done) (volume_fit (level_in volume) done asks.volume_fit.fit)));
              fit = subst VolumeFit (sym (level_back (volume_played (level_in volume) done) (volume_fit (level_in volume) done asks.volume_fit.fit))) (volume_fit (level_in volume) done asks.volume_fit.fit);
            })

        out_length : length out ≡ length room
        out_length = ap length p.bytes ∙ stored_length size at _ _ room done

        pub put_asks : PutSoundsAsks totals level out size from n
        put_asks =
            record {
              words_size = g.words_size;
              few = few;
              volume_fit = volume_float;
              first_totals = total_carries first_side (column_word input size at) (first_words w) (λ k. float_at totals (2 * k)) (λ k h. (first_word k h).0) (λ k h. (first_word k h).1.input) first_fit p.first g.first;
              second_totals = total_carries second_side (column_word input size (at + 2)) (second_words w) (λ k. float_at totals (2 * k + 1)) (λ k h. (second_word k h).0) (λ k h. (second_word k h).1.input) second_fit p.second g.second;
              has = λ k h. omega (arith, columns_behind room asks.room_has k h, out_length);
            }

        pub passing_next : (level' : FloatLevel) (filled : List ℕ) → PutSoundsGives totals level out size from n level' filled → Passing bands l volume size at count input room after filled totals level' (n + done)
        passing_next level' filled q =
            record {
              most = left;
              words_size = g.words_size;
              size_is = g.size;
              whole = g.whole;
              first = side_next first_side (column_word input size at) (first_words w) (λ k. float_at totals (2 * k)) (λ k h. (first_word k h).0) (λ k h. (first_word k h).1.input) first_fit p.first g.first;
              second = side_next second_side (column_word input size (at + 2)) (second_words w) (λ k. float_at totals (2 * k + 1)) (λ k h. (second_word k h).0) (λ k h. (second_word k h).1.input) second_fit p.second g.second;
              level_is =
                  q.volume_is
                  ∙ ap (λ (v : Level). float_level (volume_played v n)) (ap level_in p.level_is ∙ level_back (volume_played (level_in volume) done) (volume_fit (level_in volume) done asks.volume_fit.fit))
                  ∙ ap float_level (volume_behind (level_in volume) done n);
              bytes =
                  q.bytes
                  ∙ stored_same size from (total_heard level (first_words totals)) (total_heard level (second_words totals)) (λ k. first_heard (k + done)) (λ k. second_heard (k + done)) out n
                  (heard_is first_side (column_word input size at) (first_words w) (λ k. float_at totals (2 * k)) (λ k h. (first_word k h).0) (λ k h. (first_word k h).1.input) first_fit p.first g.first)
                  (heard_is second_side (column_word input size (at + 2)) (second_words w) (λ k. float_at totals (2 * k + 1)) (λ k h. (second_word k h).0) (λ k h. (second_word k h).1.input) second_fit p.second g.second)
                  ∙ ap (λ (o : List ℕ). columns_stored size from (λ k. first_heard (k + done)) (λ k. second_heard (k + done)) o n) p.bytes
                  ∙ stored_behind size at first_heard second_heard room done n;
            }
          where
            first_heard : ℕ → ℤ
            first_heard = sample_heard (level_in volume) (bands_at_side bands first_side) (column_word input size at) (channel_at_side l first_side)

            second_heard : ℕ → ℤ
            second_heard = sample_heard (level_in volume) (bands_at_side bands second_side) (column_word input size (at + 2)) (channel_at_side l second_side)

  pub passing_ends : (m : List Float) (out : List ℕ) (words : List Float) (level : FloatLevel) → Passing bands l volume size at count input room m out words level count → PairFramesGives bands l volume size at count input room level m out
  passing_ends m out words level p =
      record {
        volume_is = p.level_is;
        size_is = p.size_is;
        whole = p.whole;
        first = p.first;
        second = p.second;
        bytes = p.bytes;
      }

-- The frames of a pass, on lists: words become T, frame by frame, and each side's channel is played.
use mathlib.Core.Path.{◌≡◌, refl, sym, ap, ◌∙◌, subst}
use mathlib.Core.Bool.{true}
use mathlib.Core.List.{List}
use Prim.Native.Nat.{ℕ, suc, ◌+◌, ◌*◌, ◌≤◌, ◌<◌}
use native.Mathlib.Omega.{arith}
use lib.IntN.{ℤ}
use lib.ListN.{length}
use lib.Ieee.{Float}
use Rattle.lists.specs.Lists.{Each}
use Rattle.floats.specs.Whole.{float, whole_of}
use Rattle.unit.specs.declared.Channel.{Channel}
use Rattle.unit.specs.Frame.{channel_frame, exact_mix}
use Rattle.unit.specs.Fit.{is_input, BandFit, ChannelFit}
use Rattle.unit.proofs.Ranges.{input_size}
use Rattle.engine.specs.declared.Sides.{Sides}
use Rattle.engine.specs.Floats.{float_at, WholeFloats}
use Rattle.engine.specs.Layout.{pair_floats, Side, first_side, second_side, sides_at, put_sides, bands_at_side, channel_at_side}
use Rattle.engine.specs.Frame.{SideAsks, FrameAsks, SideGives, FrameGives}
use Rattle.engine.proofs.Store.{sides-length}
use Rattle.frames.specs.Column.{channel_played}
use Rattle.frames.specs.Run.{pass_words, first_words, second_words, InputFloat, MixWordsAsks, MixWordsGives}
use Rattle.frames.proofs.Words.{words_other, words_more}
use Rattle.frames.proofs.Column.{channel_fit}

-- one side after k frames on the words xs
abbrev side_after : List Float → List Float → Side → (ℕ → ℤ) → ℕ → Channel
side_after bands l e xs k = channel_played (bands_at_side bands e) xs (channel_at_side l e) k

-- T of each side in frame k
abbrev totals_of : List Float → List Float → List Float → ℕ → Sides Float
totals_of bands l words k =
    record {
      first = float (exact_mix (side_after bands l first_side (first_words words) (suc k)));
      second = float (exact_mix (side_after bands l second_side (second_words words) (suc k)));
    }

-- after k frames: m are the pair's floats and w the words, of which the first have become T
pub record Mixing (bands l words : List Float) (count : ℕ) (m w : List Float) (k : ℕ) : Type 0 where
  pub most : k ≤ count
  pub size : length m ≡ pair_floats
  pub whole : WholeFloats m
  pub words_size : length w ≡ pass_words
  pub first : channel_at_side m first_side ≡ side_after bands l first_side (first_words words) k
  pub second : channel_at_side m second_side ≡ side_after bands l second_side (second_words words) k
  pub done : (j : ℕ) → j < k → sides_at w (2 * j) ≡ totals_of bands l words j
  pub ahead : (j : ℕ) → k ≤ j → sides_at w (2 * j) ≡ sides_at words (2 * j)

module _ (bands l words : List Float) (count : ℕ) (asks : MixWordsAsks bands l words count) where
  pub mixing_begins : Mixing bands l words count l words 0
  unfolding channel_played
  mixing_begins =
      record {
        most = omega arith;
        size = asks.pair_fit.size;
        whole = asks.pair_fit.whole;
        words_size = asks.words_size;
        first = refl;
        second = refl;
        done = λ j h. absurd (omega arith);
        ahead = λ j h. refl;
      }

  module _ (m w : List Float) (k : ℕ) (below : k < count) (p : Mixing bands l words count m w k) where
    side_asks : (e : Side) (xs : ℕ → ℤ) → Each BandFit (bands_at_side bands e) → ChannelFit (channel_at_side l e) → ((j : ℕ) → j < count → is_input (xs j) ≡ true) → channel_at_side m e ≡ side_after bands l e xs k → (x : Float) → InputFloat x → SideAsks bands m e x
    side_asks e xs b f i c x y =
        record {
          bands_fit = b;
          channel_fit = subst ChannelFit (sym c) (channel_fit (bands_at_side bands e) xs (channel_at_side l e) k (λ j h. i j (omega (arith, h))) f);
          x_carries = record { whole = y.whole; small = input_size (whole_of x) y.input };
        }

    pub frame_asks : FrameAsks bands m (sides_at words (2 * k))
    frame_asks =
        record {
          bands_size = asks.pair_fit.bands_size;
          bands_whole = asks.pair_fit.bands_whole;
          size = p.size;
          whole = p.whole;
          first = side_asks first_side (first_words words) asks.pair_fit.first_bands asks.pair_fit.first_fit (λ j h. (asks.first_inputs j h).input) p.first (float_at words (2 * k)) (asks.first_inputs k below);
          second = side_asks second_side (second_words words) asks.pair_fit.second_bands asks.pair_fit.second_fit (λ j h. (asks.second_inputs j h).input) p.second (float_at words (2 * k + 1)) (asks.second_inputs k below);
        }

    pub room : 2 * k + 1 < length w
    room = omega (arith, below, asks.few, p.words_size)

    module _ (after : List Float) (totals : Sides Float) (g : FrameGives bands m (sides_at words (2 * k)) after totals) where
      channel_next : (e : Side) (xs : ℕ → ℤ) (x t : Float) → xs k ≡ whole_of x → channel_at_side m e ≡ side_after bands l e xs k → SideGives bands m e x after t → channel_at_side after e ≡ side_after bands l e xs (suc k)
      unfolding channel_played
      channel_next e xs x t i c s = s.channel ∙ (λ r. channel_frame (bands_at_side bands e) (sym i r) (c r))

      total_next : (e : Side) (xs : ℕ → ℤ) (x t : Float) → xs k ≡ whole_of x → channel_at_side m e ≡ side_after bands l e xs k → SideGives bands m e x after t → t ≡ float (exact_mix (side_after bands l e xs (suc k)))
      unfolding channel_played
      total_next e xs x t i c s = s.total_is ∙ (λ r. float (exact_mix (channel_frame (bands_at_side bands e) (sym i r) (c r))))

      totals_are : totals ≡ totals_of bands l words k
      totals_are =
          λ r.
          record {
            first = total_next first_side (first_words words) (float_at words (2 * k)) totals.first refl p.first g.first r;
            second = total_next second_side (second_words words) (float_at words (2 * k + 1)) totals.second refl p.second g.second r;
          }

      pub mixing_next : Mixing bands l words count after (put_sides w (2 * k) totals) (suc k)
      mixing_next =
          record {
            most = below;
            size = g.size;
            whole = g.whole;
            words_size = sides-length w (2 * k) totals ∙ p.words_size;
            first = channel_next first_side (first_words words) (float_at words (2 * k)) totals.first refl p.first g.first;
            second = channel_next second_side (second_words words) (float_at words (2 * k + 1)) totals.second refl p.second g.second;
            done = words_more w k totals (totals_of bands l words) room totals_are p.done;
            ahead = λ j h. words_other w k totals j (λ e. omega (arith, h, e)) ∙ p.ahead j (omega (arith, h));
          }

  pub mixing_ends : (m w : List Float) → Mixing bands l words count m w count → MixWordsGives bands l words count m w
  mixing_ends m w p =
      record {
        size = p.size;
        whole = p.whole;
        words_size = p.words_size;
        first = record { channel = p.first; totals_are = λ j h. ap (λ (s : Sides Float). s.first) (p.done j h) };
        second = record { channel = p.second; totals_are = λ j h. ap (λ (s : Sides Float). s.second) (p.done j h) };
      }

-- `lent_blocks::run` meets its contract: the floats stand for the unit of the lent numbers, before the frames and after them.
use mathlib.Core.Path.{◌≡◌, refl, sym, ap, ◌∙◌}
use mathlib.Core.List.{List, [], ◌∷◌}
use Prim.Native.Nat.{ℕ}
use lib.IntN.{ℤ}
use lib.ListN.{length, drop}
use lib.Ieee.{Float}
use Rattle.unit.specs.Fit.{Fit}
use Rattle.engine.specs.declared.FloatLevel.{FloatLevel}
use Rattle.frames.specs.Run.{unit_in}
use Rattle.blocks.proofs.Block.{BlockAccepts, block_accepted}
use Rattle.blocks.proofs.Packed.{Packed, frames_asks, unit_after_lem, fit_after, volume_after, output_after}
use Rattle.numbers.specs.Layout.{left_place, right_place, channel_of, numbers_of, unit_of}
use Rattle.lent_packing.specs.Store.{unit_stored}
use Rattle.lent_blocks.proofs.run.Lts as lts
use Rattle.lent_blocks.proofs.run.Reads as reads
use Rattle.lent_blocks.proofs.run.Tie as tie
use Rattle.lent_blocks.proofs.run.Goals as goal

-- the channels of the lent numbers
channels-are : (l : List ℤ) → channel_of (drop left_place l) ∷ channel_of (drop right_place l) ∷ [] ≡ (unit_of l).channels
unfolding unit_of
channels-are l = refl

module _ (z : lts.Start tie.the-claims reads.Pre reads.Post) where
  abbrev l : List ℤ
  l = z.args.numbers.now

  abbrev input : List ℕ
  input = z.args.input.now

  abbrev room : List ℕ
  room = z.args.output.now

  accepts : BlockAccepts 2 (unit_of l) (length input) (length room)
  accepts = block_accepted 2 (unit_of l) (length input) (length room) z.requires

module _ (c : lts.After-pair_floats_at tie.the-claims reads.Pre reads.Post) where
  abbrev s : lts.Start tie.the-claims reads.Pre reads.Post
  s = c.before.before.before.before.before

  abbrev level : FloatLevel
  level = c.volume_floats_at-volume.result

  abbrev bands : List Float
  bands = c.band_floats_at-bands.result

  abbrev pair : List Float
  pair = c.pair_floats_at-pair.result

  packed : Packed (unit_of (l s)) level bands pair
  packed =
      record {
        first = channel_of (drop left_place (l s));
        second = channel_of (drop right_place (l s));
        channels = channels-are (l s);
        level_is = c.volume_floats_at-volume.ensures;
        bands_are = c.band_floats_at-bands.ensures;
        pair_is = c.pair_floats_at-pair.ensures;
      }

pub frames-level-requires : goal.frames-level-requires
frames-level-requires c = frames_asks (unit_of (l (s c.before.before.before.before))) (input (s c.before.before.before.before)) (room (s c.before.before.before.before)) (accepts (s c.before.before.before.before)) (level c.before.before.before.before) (bands c.before.before.before.before) (pair c.before.before.before.before) (packed c.before.before.before.before)

module _ (c : lts.After-frames tie.the-claims reads.Pre reads.Post) where
  abbrev p : lts.After-pair_floats_at tie.the-claims reads.Pre reads.Post
  p = c.before.before.before.before

  abbrev after : List Float
  after = c.frames-level.new.sides

  abbrev filled : List ℕ
  filled = c.frames-level.new.output

  fit : Fit (unit_in c.frames-level.result (bands p) 1 after)
  fit = fit_after (unit_of (l (s (p)))) (input (s (p))) (room (s (p))) (accepts (s (p))) (level (p)) (bands (p)) (pair (p)) (packed (p)) c.frames-level.result after filled c.frames-level.ensures

  -- the unit that is stored is the one that is played
  stored_is : unit_stored (unit_of (l (s p))).bands c.frames-level.result after ≡ unit_in c.frames-level.result (bands p) 1 after
  stored_is = λ i. unit_stored (sym (packed p).bands_are.first i) c.frames-level.result after

pub store-requires : goal.store-requires
store-requires c =
    record {
      numbers_size = (s (p f)).told-numbers;
      volume_carries = volume_after (unit_of (l (s (p f)))) (input (s (p f))) (room (s (p f))) (accepts (s (p f))) (level (p f)) (bands (p f)) (pair (p f)) (packed (p f)) f.frames-level.result (after f) (filled f) f.frames-level.ensures;
      size = f.frames-level.ensures.size;
      whole = f.frames-level.ensures.whole;
      first_fit = (fit f).channels.0;
      second_fit = (fit f).channels.1.0;
    }
  where
    f : lts.After-frames tie.the-claims reads.Pre reads.Post
    f = c.before.before.before.before.before.before

pub returns : goal.returns
returns c =
    record {
      numbers_are = c.store.ensures ∙ ap numbers_of (stored_is f ∙ unit_after_lem (unit_of (l (s (p f)))) (input (s (p f))) (room (s (p f))) (accepts (s (p f))) (level (p f)) (bands (p f)) (pair (p f)) (packed (p f)) f.frames-level.result (after f) (filled f) f.frames-level.ensures);
      bytes = output_after (unit_of (l (s (p f)))) (input (s (p f))) (room (s (p f))) (accepts (s (p f))) (level (p f)) (bands (p f)) (pair (p f)) (packed (p f)) f.frames-level.result (after f) (filled f) f.frames-level.ensures;
    }
  where
    f : lts.After-frames tie.the-claims reads.Pre reads.Post
    f = c.before.before.before.before.before.before.before

-- An accepted unit held as floats: they have what frames ask, and after the frames they stand for the unit that is played.
use mathlib.Core.Path.{◌≡◌, sym, ap, ◌∙◌, subst}
use mathlib.Core.List.{List, [], ◌∷◌, ◌++◌}
use Prim.Native.Nat.{ℕ, ◌*◌, ◌/◌}
use native.Mathlib.Omega.{arith}
use lib.ListN.{length, drop}
use lib.Ieee.{Float}
use Rattle.unit.specs.declared.Channel.{Channel}
use Rattle.unit.specs.declared.Unit.{Unit}
use Rattle.unit.specs.Fit.{Fit}
use Rattle.engine.specs.declared.FloatLevel.{FloatLevel}
use Rattle.engine.specs.Floats.{float_level, level_in}
use Rattle.engine.specs.Frame.{LevelCarries}
use Rattle.engine.proofs.Carry.{level_back, volume_moves}
use Rattle.packing.specs.Packing.{BandFloatsGives, PairFloatsGives}
use Rattle.frames.specs.Played.{played, sound}
use Rattle.frames.specs.Run.{unit_in, FramesAsks, FramesGives}
use Rattle.frames.proofs.Many.{played_fit}
use Rattle.blocks.proofs.Block.{BlockAccepts, four_a_frame}

-- these floats stand for a unit of two channels
pub record Packed (u : Unit) (level : FloatLevel) (bands pair : List Float) : Type 0 where
  pub first : Channel
  pub second : Channel
  pub channels : first ∷ second ∷ [] ≡ u.channels
  pub level_is : level ≡ float_level u.volume
  pub bands_are : BandFloatsGives u.bands bands
  pub pair_is : PairFloatsGives first second pair

module _ (u : Unit) (input room : List ℕ) (a : BlockAccepts 2 u (length input) (length room)) (level : FloatLevel) (bands pair : List Float) (p : Packed u level bands pair) where
  abbrev count : ℕ
  count = length input / 4

  all : 4 * count ≡ length input
  all = four_a_frame (length input) a.frames

  volume_back : level_in level ≡ u.volume
  volume_back = ap level_in p.level_is ∙ level_back u.volume a.fit.volume

  packed_is : unit_in level bands 1 pair ≡ u
  packed_is =
      (λ i. record {
        volume = volume_back i;
        bands = p.bands_are.first i;
        channels = p.pair_is.first i ∷ p.pair_is.second i ∷ [];
      })
      ∙ ap (λ (cs : List Channel). record { volume = u.volume; bands = u.bands; channels = cs }) p.channels

  pub frames_asks : FramesAsks bands pair 1 level count input room
  frames_asks =
      record {
        some = omega arith;
        bands_size = p.bands_are.size;
        bands_whole = p.bands_are.whole;
        bands_same = p.bands_are.second ∙ sym p.bands_are.first;
        size = p.pair_is.size;
        whole = p.pair_is.whole;
        volume_whole = p.level_is ∙ ap float_level (sym volume_back);
        fit = subst Fit (sym packed_is) a.fit;
        input_has = omega (arith, all);
        room_has = omega (arith, all, a.enough);
      }

  module _ (level' : FloatLevel) (pair' : List Float) (filled : List ℕ) (g : FramesGives bands pair 1 level count input room level' pair' filled) where
    pub unit_after_lem : unit_in level' bands 1 pair' ≡ played 2 u input count
    unit_after_lem = g.unit ∙ ap (λ (v : Unit). played 2 v input count) packed_is

    pub fit_after : Fit (unit_in level' bands 1 pair')
    fit_after = subst Fit (sym unit_after_lem) (played_fit 2 u input count a.fit)

    pub volume_after : LevelCarries level'
    volume_after = subst LevelCarries (sym g.volume_whole) (volume_moves (level_in level') fit_after.volume)

    pub output_after : filled ≡ sound 2 u input count ++ drop (length input) room
    output_after = g.bytes ∙ (λ i. sound 2 (packed_is i) input count ++ drop (all i) room)

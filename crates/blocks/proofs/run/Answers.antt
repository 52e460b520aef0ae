-- `blocks::run` meets its contract: the floats stand for the unit, before the frames and after them (proofs/Packed.antt).
use mathlib.Core.Path.{sym, ◌∙◌}
use mathlib.Core.List.{[], ◌∷◌}
use native.Mathlib.Omega.{arith}
use lib.ListN.{length, get_or}
use Rattle.lists.proofs.Tabulate.{tabulate_all, each_get_d}
use Rattle.unit.specs.Fit.{ChannelFit}
use Rattle.unit.proofs.Ranges.{volume_size}
use Rattle.unit.proofs.PastEnd.{zero_channel}
use Rattle.blocks.proofs.Block.{BlockAccepts, block_accepted}
use Rattle.blocks.proofs.Packed.{Packed, frames_asks, unit_after_lem, fit_after, volume_after, output_after}
use Rattle.blocks.proofs.run.Goals.{Start, After-level_floats-volume, After-frames-level}
use Rattle.blocks.proofs.run.Goals as goal

abbrev accepts : (s : Start) → BlockAccepts 2 s.args.unit.now (length s.args.input.now) (length s.args.output.now)
accepts s = block_accepted 2 s.args.unit.now (length s.args.input.now) (length s.args.output.now) s.requires

pub pair_floats-pair-requires : goal.pair_floats-pair-requires
pair_floats-pair-requires c =
    let s = (goal.at.pair_floats-pair-requires c).Start in
    record {
      first_fit = each_get_d ChannelFit s.args.unit.now.channels zero_channel (accepts s).fit.channels 0 (omega arith);
      second_fit = each_get_d ChannelFit s.args.unit.now.channels zero_channel (accepts s).fit.channels 1 (omega arith);
    }

pub level_floats-volume-requires : goal.level_floats-volume-requires
level_floats-volume-requires c =
    let s = (goal.at.level_floats-volume-requires c).Start in
    record {
      present_size = volume_size s.args.unit.now.volume.present (accepts s).fit.volume.present;
      target_size = volume_size s.args.unit.now.volume.target (accepts s).fit.volume.target;
    }

packed : (c : After-level_floats-volume) → Packed c.args.unit.now c.level_floats-volume.result c.band_floats-bands.result c.pair_floats-pair.result
packed c =
    record {
      first = get_or c.args.unit.now.channels 0 zero_channel;
      second = get_or c.args.unit.now.channels 1 zero_channel;
      channels = tabulate_all c.args.unit.now.channels zero_channel 2 (omega arith);
      level_is = c.level_floats-volume.ensures;
      bands_are = c.band_floats-bands.ensures;
      pair_is = c.pair_floats-pair.ensures;
    }

pub frames-level-requires : goal.frames-level-requires
frames-level-requires c =
    let p = (goal.at.frames-level-requires c).After-level_floats-volume in
    frames_asks _ _ _ (accepts (goal.at.frames-level-requires c).Start) _ _ _ (packed p)

pub level_of-unit-requires : goal.level_of-unit-requires
level_of-unit-requires c =
    let f = (goal.at.level_of-unit-requires c).After-frames-level in
    volume_after _ _ _ (accepts (goal.at.level_of-unit-requires c).Start) _ _ _ (packed (goal.at.level_of-unit-requires c).After-level_floats-volume) _ _ _ f.frames-level.ensures

pub channel_of-requires : goal.channel_of-requires
channel_of-requires c =
    let g = (goal.at.channel_of-requires c).After-frames-level.frames-level.ensures in
    let fit = fit_after _ _ _ (accepts (goal.at.channel_of-requires c).Start) _ _ _ (packed (goal.at.channel_of-requires c).After-level_floats-volume) _ _ _ g in
    record { below = omega arith; size = g.size; whole = g.whole; fit = fit.channels.0 }

pub channel_of-requires-2 : goal.channel_of-requires-2
channel_of-requires-2 c =
    let g = (goal.at.channel_of-requires-2 c).After-frames-level.frames-level.ensures in
    let fit = fit_after _ _ _ (accepts (goal.at.channel_of-requires-2 c).Start) _ _ _ (packed (goal.at.channel_of-requires-2 c).After-level_floats-volume) _ _ _ g in
    record { below = omega arith; size = g.size; whole = g.whole; fit = fit.channels.1.0 }

pub returns : goal.returns
returns c =
    let a = accepts (goal.at.returns c).Start in
    let p = packed (goal.at.returns c).After-level_floats-volume in
    let g = (goal.at.returns c).After-frames-level.frames-level.ensures in
    record {
      unit =
          (λ i. record {
            volume = c.level_of-unit.ensures i;
            bands = sym p.bands_are.first i;
            channels = c.channel_of.ensures i ∷ c.channel_of-2.ensures i ∷ [];
          })
          ∙ unit_after_lem _ _ _ a _ _ _ p _ _ _ g;
      bytes = output_after _ _ _ a _ _ _ p _ _ _ g;
    }

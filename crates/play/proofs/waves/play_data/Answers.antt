-- `waves::play_data` is safe: what the front has of the data is a part of it, and the end of the pass is that of the file's data.
use mathlib.Core.Path.{sym, ap, ◌∙◌}
use Rattle.std.specs.Prelude.{Result}
use Rattle.refusals.specs.declared.Refusal.{Refusal}
use Rattle.wave_reading.specs.declared.Located.{Located}
use Rattle.wave_reading.specs.Walk.{place_of}
use Rattle.wave_writing.specs.Writing.{heading}
use Rattle.play.proofs.WaveData.{size_few, ahead_few, ends_within, can_begin, wave_gives}
use Rattle.play.proofs.waves.play_data.Goals as goal

pub heading-heading-requires : goal.heading-heading-requires
heading-heading-requires c = size_few c.args.unit c.args.front.now c.args.place c.args.ahead c.requires

pub send_heading-requires : goal.send_heading-requires
send_heading-requires c =
    c.heading-heading.ensures ∙ ap (λ (found : Result Located Refusal). heading (place_of found).size) (sym c.requires.place_is)

pub overflow_sub-to : goal.overflow_sub-to
overflow_sub-to c = ahead_few c.args.unit c.args.front.now c.args.place c.args.ahead c.requires

pub slice_bounds-play-end : goal.slice_bounds-play-end
slice_bounds-play-end c = ends_within c.args.unit c.args.front.now c.args.place c.args.ahead c.requires

pub play-stream-requires : goal.play-stream-requires
play-stream-requires c = can_begin c.args.unit c.args.front.now c.args.place c.args.ahead c.requires

pub finish-requires : goal.finish-requires
finish-requires c =
    wave_gives c.args.unit c.args.front.now c.args.place c.args.ahead c.requires c.play-stream.new.unit c.play-stream.result c.play-stream.ensures

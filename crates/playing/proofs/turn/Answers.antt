-- `playing::turn` meets its contract: the held bytes and those that were read are played together.
use mathlib.Core.Path.{refl}
use native.Mathlib.Omega.{arith}
use Rattle.playing.proofs.Turns.{turn_gives}
use Rattle.playing.proofs.turn.Goals as goal

pub returns : goal.returns
returns c =
    turn_gives c.args.unit.now c.args.stream c.args.input.now c.receive.new.buffer c.args.output.now _ _ c.in_ok-more.more c.requires c.in_ok-more.ensures
    c.sound-sounded.new.unit c.sound-sounded.result _ _ c.sound-sounded.ensures refl refl (omega arith)

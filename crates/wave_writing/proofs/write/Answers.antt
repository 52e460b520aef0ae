-- `wave_writing::write` meets its contract: the heading is copied to the front of the buffer, and the frames behind it.
use Rattle.std.proofs.Common.{sym, ◌∙◌}
use Rattle.wave_writing.specs.Writing.{heading}
use Rattle.wave_writing.proofs.Buffer.{assembled}
use Rattle.wave_writing.proofs.write.Goals as goal

pub returns : goal.returns
unfolding heading
returns c =
    assembled c.args.frames.now c.args.buffer.now c.put_front.new.buffer c.put_front-2.new.buffer (sym c.check_size.ensures ∙ c.in_ok-check_size.was) c.if-buffer-frames.false (rw c.heading.ensures at c.put_front.ensures) c.put_front-2.ensures

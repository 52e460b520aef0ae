-- `console::receive` meets its contract: what is read stands behind the held bytes.
use Rattle.std.proofs.Common.{arith}
use Rattle.console.proofs.Pieces.{read_into, none_taken}
use Rattle.console.proofs.receive.Goals as goal

pub returns-in-Ok : goal.returns-in-Ok
returns-in-Ok g c =
    read_into _ c.args.held c.args.most c.min.result c.args.buffer.now c.read.new.buf _ _ c.requires c.min.ensures c.read.auto.buf
    c.in-Ok.ensures.bound.0 c.in-Ok.ensures.bytes.0

pub returns-in-Err : goal.returns-in-Err
returns-in-Err g c =
    read_into _ c.args.held c.args.most c.min.result c.args.buffer.now c.read.new.buf _ _ c.requires c.min.ensures c.read.auto.buf
    (omega arith) (none_taken _ _ c.in-Err.ensures.bytes)

-- `play::pass` is safe: the unit that a sheet carries can play a stream.
use lib.Dec.{lit≤}
use Rattle.play.proofs.Sheets.{sheet_ready}
use Rattle.play.proofs.pass.Goals as goal

pub pass-requires : goal.pass-requires
pass-requires c = sheet_ready c.args.bytes.now c.args.unit c.requires

pub play-stream-requires : goal.play-stream-requires
play-stream-requires c = record { ready = sheet_ready c.args.bytes.now c.args.unit c.requires; first_few = lit≤ tt }

pub finish-requires : goal.finish-requires
finish-requires c = record { most = _; gives = c.play-stream.ensures }

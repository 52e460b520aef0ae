-- `play::start` is safe: what is said is what the sheet is answered, and what is played is the unit that an accepted one carries.
use Rattle.play.proofs.Sheets.{sheet_reads}
use Rattle.play.proofs.start.Goals as goal

pub pass-requires : goal.pass-requires
pass-requires c = sheet_reads c.args.bytes.now c.opening.new.unit c.in-Ok.ensures

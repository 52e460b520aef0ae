-- `desk::gather` meets its contract: what it counts has room.
use Rattle.std.proofs.Common.{◌≤◌, length}
use Rattle.desk.proofs.gather.Given as goal

abbrev pub invariant-loop-i : goal.invariant-loop-i
invariant-loop-i l = l.kept ≤ length l.words

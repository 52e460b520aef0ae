-- `console::skip` meets its contract. The measure is the count of bytes that are left, and each read that goes on brings one.
use Rattle.std.proofs.Common.{◌≤◌}
use Rattle.console.proofs.skip.Given as goal

abbrev pub invariant-loop-left : goal.invariant-loop-left
invariant-loop-left g l = l.left ≤ l.most

abbrev pub decreases-loop-left : goal.decreases-loop-left
decreases-loop-left g l = l.left

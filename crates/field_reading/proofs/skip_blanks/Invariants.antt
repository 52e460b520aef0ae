-- `field_reading::skip_blanks` meets its contract. The loop's invariant: blanks up to i, and those behind them make all.
use Rattle.std.proofs.Common.{◌≡◌, ◌+◌, drop}
use Rattle.field_reading.specs.Scan.{blanks_of}
use Rattle.field_reading.proofs.skip_blanks.Given as goal

abbrev pub invariant-loop-i : goal.invariant-loop-i
invariant-loop-i l = l.i + blanks_of (drop l.i l.columns) ≡ blanks_of l.columns

-- `numbers::put_row` meets its contract: the row stands in the place of as many numbers.
use Prim.Native.Nat.{◌+◌, ◌-◌}
use native.Mathlib.Omega.{arith}
use lib.ListN.{length}
use Rattle.numbers.proofs.Put.{put_row}
use Rattle.numbers.proofs.put_row.Goals as goal

pub returns : goal.returns
returns c =
    put_row c.args.out.now c.args.at (c.args.at + length c.args.row.now - c.args.at) (omega arith) (omega arith) (omega arith) c.copy_from_slice.ensures.after

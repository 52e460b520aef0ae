-- `packing::float_of` meets its contract: such a number is an f64 exactly.
use mathlib.Core.Path.{ap, sym, subst}
use Prim.Native.Nat.{◌^◌, ◌≤◌}
use native.Mathlib.Nat.{le_trans}
use native.Mathlib.Omega.{arith}
use lib.Dec.{T, lit≤, le→leb, lt→ltb}
use lib.IntN.{ℤ, pos, negsuc, nat_abs}
use lib.Ieee.{binary64, prec, in_float}
use mir.Syntax.{w64}
use Rattle.integers.proofs.Machine.{reads_back}
use Rattle.floats.specs.Whole.{float}
use Rattle.packing.proofs.float_of.Goals as goal

in-float : (z : ℤ) → nat_abs z ≤ 2 ^ prec binary64 → T (in_float binary64 z)
unfolding in_float
in-float (pos n) h = le→leb n (2 ^ prec binary64) h
in-float (negsuc n) h = lt→ltb n (2 ^ prec binary64) h

pub int_to_float-result : goal.int_to_float-result
int_to_float-result c =
    subst (λ (z : ℤ). T (in_float binary64 z)) (sym (reads_back w64 c.args.number (omega arith)))
    (in-float c.args.number (le_trans c.requires (lit≤ tt)))

pub returns : goal.returns
returns c = ap float (reads_back w64 c.args.number (omega arith))

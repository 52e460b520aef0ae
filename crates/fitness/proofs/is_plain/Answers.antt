-- `fitness::is_plain` meets its contract: 0 alone is from 0 to 0.
use mathlib.Core.Path.{◌≡◌, refl}
use Prim.Native.Nat.{zero, suc}
use lib.Dec.{eqb}
use lib.IntN.{ℤ, pos, negsuc}
use mir.Syntax.{w64}
use mir.Val.{SFits, of_z}
use native.Mathlib.Omega.{arith}
use borrow.Author.Tests.{ne_eqb, le-leb, lt-leb}
use Rattle.rounding.specs.Rounding.{within}
use Rattle.unit.specs.Fit.{is_plain}
use Rattle.fitness.proofs.is_plain.Goals as goal

zero_test : (z : ℤ) → SFits w64 z → eqb (of_z w64 z) 0 ≡ within (pos 0) (pos 0) z
unfolding within
zero_test (pos zero) h = refl
zero_test (pos (suc n)) h = simp (ne_eqb (suc n) 0 (λ e. omega arith), le-leb 0 (suc n) (omega arith), lt-leb (suc n) 0 (omega arith))
zero_test (negsuc n) h = ne_eqb (of_z w64 (negsuc n)) 0 (λ e. omega (arith, h.sfits))

pub returns : goal.returns
unfolding is_plain
returns c = zero_test c.args.section.now.remainder (record { sfits = omega arith })

-- The sheet that the program begins with.
use mathlib.Core.Path.{◌≡◌, refl, sym, subst}
use mathlib.Core.List.{List}
use Prim.Native.Nat.{ℕ}
use Rattle.refusals.specs.Numbers.{Accepted}
use Rattle.unit.specs.declared.Unit.{Unit}
use Rattle.unit.specs.Answered.{answered}
use Rattle.unit.proofs.Fitness.{fit_of_test}
use Rattle.stream.specs.Claim.{begun, Ready}
use Rattle.sheet.specs.Sheet.{side_letters}
use Rattle.roundtrip.specs.Claim.{ReadsAs}
use Rattle.roundtrip.proofs.Holds.{round_trip}
use Rattle.decisions.specs.Decisions.{opened}
use Rattle.decisions.proofs.Orders.{opened_accepted}

-- an accepted sheet reads as the unit that is answered
pub sheet_reads : (bytes : List ℕ) (u : Unit) → answered Accepted u ≡ opened bytes → ReadsAs side_letters bytes u
sheet_reads bytes u e =
    let accepted = opened_accepted bytes Accepted u e refl in
    subst (ReadsAs side_letters bytes) (sym accepted.1) ((round_trip side_letters).accepted_reads bytes accepted.0)

-- and that unit can play a stream
pub sheet_ready : (bytes : List ℕ) (u : Unit) → ReadsAs side_letters bytes u → Ready (begun u)
sheet_ready bytes u reads = record { fit = fit_of_test u ((round_trip side_letters).accepted_fit bytes u reads); channels_are = ((round_trip side_letters).accepted_shaped bytes u reads).channels }

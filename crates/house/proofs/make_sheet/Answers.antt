-- `house::make_sheet` is safe: what is handed out is the sheet of the cleared house unit.
use mathlib.Core.Path.{◌≡◌, refl, ap, ◌∙◌}
use mathlib.Core.Bool.{Bool, true, false, cond}
use lib.Dec.{lit≤}
use Rattle.refusals.specs.Numbers.{Accepted, Verdict, is_accepted}
use Rattle.bands.specs.House.{house_set}
use Rattle.unit.specs.declared.Unit.{Unit}
use Rattle.unit.specs.Answered.{answered}
use Rattle.unit.proofs.Fitness.{test_of_fit}
use Rattle.loading.specs.Loading.{set_verdict, cleared_with, loaded}
use Rattle.loading.proofs.Laws.{loaded_fit}
use Rattle.sheet.specs.Sheet.{side_letters, sheet_size}
use Rattle.writing.specs.Written.{filled_part}
use Rattle.roundtrip.proofs.Holds.{part_is_sheet}
use Rattle.house.proofs.make_sheet.Goals as goal

-- the cleared house unit is what loading the house set gives
either : (t : Bool) (u : Unit) (verdict : Verdict) → u ≡ (cond t (answered Accepted u) (answered verdict u)).unit
either true u verdict = refl
either false u verdict = refl

house_loaded : cleared_with house_set ≡ (loaded house_set).unit
unfolding loaded
house_loaded = either (is_accepted (set_verdict house_set)) (cleared_with house_set) (set_verdict house_set)

pub hand_out-requires : goal.hand_out-requires
hand_out-requires c =
    c.write-part.ensures.0
    ∙ ap (λ (u : Unit). filled_part side_letters u (sheet_size side_letters)) (c.house_unit.ensures ∙ house_loaded)
    ∙ part_is_sheet side_letters (loaded house_set).unit (sheet_size side_letters) (test_of_fit (loaded house_set).unit (loaded_fit house_set)) (lit≤ tt)

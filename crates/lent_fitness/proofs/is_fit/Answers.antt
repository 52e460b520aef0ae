-- `lent_fitness::is_fit` meets its contract: its tests are those of the definition, in that order, of the unit that the numbers stand for.
use mathlib.Core.Path.{◌≡◌, refl, sym, ap, ◌∙◌}
use mathlib.Core.Bool.{Bool, and-true, ◌&&◌}
use mathlib.Core.List.{List}
use Prim.Native.Nat.{ℕ, ◌+◌}
use native.Mathlib.Omega.{arith}
use lib.IntN.{ℤ}
use lib.ListN.{length, take, drop, length-drop}
use lib.Seq.{take_all}
use Rattle.std.specs.List.{list_all}
use Rattle.unit.specs.Cleared.{bands_of}
use Rattle.unit.specs.Fit.{volume_fits, band_fits, channel_fits, unit_fits}
use Rattle.numbers.specs.Layout.{bands_place, left_place, right_place, channel_of, unit_of}
use Rattle.lent_fitness.proofs.Laws.{in_row}
use Rattle.lent_fitness.proofs.is_fit.Goals.{Joined-volume_fits, Joined-bands_fit, then-volume_fits, else-volume_fits, then-bands_fit, else-bands_fit}
use Rattle.lent_fitness.proofs.is_fit.Goals as goal

-- what stands from a place on
onward : {B : Type 0} (f : List ℤ → B) (l : List ℤ) (place rest : ℕ) → place + rest ≡ length l → f (take rest (drop place l)) ≡ f (drop place l)
onward f l place rest e = ap f (take_all rest (drop place l) (omega (arith, length-drop place l)))

-- the four tests
module _ (l : List ℤ) where
  abbrev volume-test : Bool
  volume-test = volume_fits (unit_of l).volume

  abbrev bands-test : Bool
  bands-test = list_all band_fits (bands_of (drop bands_place l))

  abbrev channel-test : ℕ → Bool
  channel-test place = channel_fits (channel_of (drop place l))

  whole : volume-test && bands-test && channel-test left_place && channel-test right_place ≡ unit_fits (unit_of l)
  unfolding unit_fits unit_of
  whole =
      in_row {a = volume-test} {b = bands-test} {c = channel-test left_place} refl refl refl (sym (and-true (channel-test right_place)))

first-two : (c : Joined-volume_fits) → c.if-volume_fits.value ≡ volume-test c.args.numbers.now && bands-test c.args.numbers.now
unfolding unit_of
first-two c =
    let l = c.args.numbers.now in
    elim c.if-volume_fits.branch [
      | then-volume_fits w ↦
          w.value-is
          ∙ w.bands_fit.ensures
          ∙ onward (λ m. list_all band_fits (bands_of m)) l bands_place 136 (omega arith)
          ∙ ap (λ (t : Bool). t && bands-test l) w.if-volume_fits.ensures
      | else-volume_fits w ↦ w.value-is ∙ w.if-volume_fits.false ∙ ap (λ (t : Bool). t && bands-test l) w.if-volume_fits.ensures
    ]

first-three : (c : Joined-bands_fit) → c.if-bands_fit.value ≡ volume-test c.args.numbers.now && bands-test c.args.numbers.now && channel-test c.args.numbers.now left_place
first-three c =
    let l = c.args.numbers.now in
    elim c.if-bands_fit.branch [
      | then-bands_fit w ↦
          w.value-is
          ∙ w.channel_fits.ensures
          ∙ onward (λ m. channel_fits (channel_of m)) l left_place 106 (omega arith)
          ∙ ap (λ (t : Bool). t && channel-test l left_place) (sym w.if-bands_fit.true ∙ first-two c.before)
      | else-bands_fit w ↦ w.value-is ∙ w.if-bands_fit.false ∙ ap (λ (t : Bool). t && channel-test l left_place) (sym w.if-bands_fit.false ∙ first-two c.before)
    ]

-- and the right channel's
all-four : (c : Joined-bands_fit) {t : Bool} → c.if-bands_fit.value ≡ t → t && channel-test c.args.numbers.now right_place ≡ unit_fits (unit_of c.args.numbers.now)
all-four c e = ap (λ (t : Bool). t && channel-test c.args.numbers.now right_place) (sym e ∙ first-three c) ∙ whole c.args.numbers.now

pub returns-then-channel_fits : goal.returns-then-channel_fits
returns-then-channel_fits c =
    c.channel_fits-then-channel_fits.ensures
    ∙ onward (λ m. channel_fits (channel_of m)) c.args.numbers.now right_place 53 (omega arith)
    ∙ all-four (goal.at.returns-then-channel_fits c).Joined-bands_fit c.if-channel_fits.true

pub returns-else-channel_fits : goal.returns-else-channel_fits
returns-else-channel_fits c = c.if-channel_fits.false ∙ all-four c.before c.if-channel_fits.false

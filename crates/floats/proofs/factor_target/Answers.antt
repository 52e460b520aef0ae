-- `floats::factor_target` meets its contract: its product is exact, its rounding the definition's, and its cast loses nothing.
use mathlib.Core.Path.{◌≡◌, sym, ap, ◌∙◌, subst}
use mathlib.Core.Bool.{not}
use lib.Dec.{T}
use lib.IntN.{ℤ}
use lib.Ieee.{Float, binary32, binary64, of_bits, of_int, to_signed, in_signed, fits, is_nan}
use lib.Ieee.Fits.{fits_widens, and_i}
use denote.Floats.{passes}
use lib.Ieee.Casts.{to_signed_in}
use mir.Syntax.{w64}
use mir.Val.{to_z, of_z}
use mir.Facts.{to_z-of_z}
use Rattle.rounding.specs.Rounding.{nearest, limit}
use Rattle.words.specs.Words.{word_low, word_high}
use Rattle.floats.specs.Value.{in_units, factor_target, band_lowest, target_shift}
use Rattle.floats.proofs.Casts.{finite_no_nan}
use Rattle.floats.proofs.Laws.{factor_says}
use Rattle.floats.proofs.Target.{scaled_roundable, scaled_whole, target_back}
use Rattle.floats.proofs.factor_target.Goals.{After-row_known-2-1, Start}
use Rattle.floats.proofs.factor_target.Goals as goal

fitting : (s : Start) → T (fits binary32 s.args.f)
fitting s = passes (fits binary32 s.args.f) s.well_formed.0.1

pub float_to_float-scaled : goal.float_to_float-scaled
float_to_float-scaled c =
    and_i (fits binary64 c.args.f) (not (is_nan c.args.f))
    (fits_widens c.args.f (fitting c.before.before))
    (finite_no_nan c.before.args.f (factor_says band_lowest c.before.args.f c.before.requires).0)

pub nearest_whole-rounded-requires : goal.nearest_whole-rounded-requires
unfolding of_bits
nearest_whole-rounded-requires c = scaled_roundable c.before.args.f (fitting (goal.at.nearest_whole-rounded-requires c).Start) c.before.requires

-- the rounded product is the float of the rounded units
module _ (c : After-row_known-2-1) where
  abbrev s : Start
  s = c.before.before.before.before

  abbrev whole : ℤ
  whole = nearest (in_units binary32 s.args.f) target_shift

  rounded : c.before.nearest_whole-rounded.result ≡ of_int binary64 whole
  unfolding of_bits
  rounded = c.before.nearest_whole-rounded.ensures ∙ ap (of_int binary64) (scaled_whole s.args.f (fitting s) s.requires)

  back : T (in_signed binary64 63 (of_int binary64 whole)) × (to_signed 63 (of_int binary64 whole) ≡ whole)
  back = target_back s.args.f (fitting s) s.requires

  -- and its cast is that whole number
  cast : to_z w64 (of_z w64 (to_signed 63 c.before.nearest_whole-rounded.result)) ≡ whole
  cast = to_z-of_z {w = w64} (record { sfits = to_signed_in 63 c.before.nearest_whole-rounded.result }) ∙ ap (to_signed 63) rounded ∙ back.1

pub float_to_int-rounded : goal.float_to_int-rounded
float_to_int-rounded c = subst (λ (y : Float). T (in_signed binary64 63 y)) (sym (rounded c)) (back c).0

pub returns : goal.returns
unfolding factor_target
returns c = to_z-of_z {w = w64} (record { sfits = c.saturate.type_inv }) ∙ c.saturate.ensures ∙ ap (limit word_low word_high) (cast (goal.at.returns c).After-row_known-2-1)

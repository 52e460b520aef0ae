-- Every starred figure is what the definitions give: one equation of two lists, which antt computes.
use mathlib.Core.Path.{◌≡◌, refl}
use mathlib.Core.List.{map}
use Rattle.rounding.specs.Rounding.{floor, rest, odd, goes_up, nearest, taken, limit, within}
use Rattle.bands.specs.Bands.{alpha_accepted, beta_accepted, gamma_accepted, band_verdict}
use Rattle.bands.specs.House.{house_set}
use Rattle.floats.specs.Value.{in_units, factor_target}
use Rattle.section.specs.Equation.{exact_sum, worked}
use Rattle.section.specs.Step.{all_words, step_verdict, accepted_step, stepped, answers_over}
use Rattle.levels.specs.Levels.{ramp}
use Rattle.unit.specs.Frame.{section_frame, channel_frame, exact_mix, mix, output, unit_frame}
use Rattle.settings.specs.Settings.{target_of}
use Rattle.figures.specs.Figures.{Figure, starred}

pub starred_hold : map (λ (f : Figure). f.given) starred ≡ map (λ (f : Figure). f.printed) starred
unfolding starred house_set answers_over stepped accepted_step step_verdict all_words band_verdict alpha_accepted beta_accepted gamma_accepted exact_sum worked nearest taken goes_up odd rest floor limit within ramp section_frame channel_frame exact_mix mix output unit_frame target_of factor_target in_units
starred_hold = refl

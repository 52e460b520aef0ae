-- "The preview keeps coefficients and delayed words as f64": how it carries a section. Definitions only, by docs/SPECIFICATION.md, The floating preview.
use Rattle.std.specs.Prelude.{◌≡◌, true, false, ◌^◌, ◌≤◌, ℤ, nat_abs, Float}
use Rattle.std.specs.Float.{binary64}
use Rattle.std.specs.Float.Ieee.{prec}
use Rattle.refusals.specs.Numbers.{is_accepted}
use Rattle.bands.specs.Bands.{band_of}
use Rattle.floats.specs.Whole.{float, whole_of, is_minus_zero}
use Rattle.section.specs.declared.Section.{Section}
use Rattle.section.specs.declared.Stepped.{Stepped}
use Rattle.section.specs.Step.{step_verdict}
use Rattle.preview.specs.declared.Preview.{Preview}
use Rattle.preview.specs.declared.PreviewStep.{PreviewStep}

-- the preview that carries a section: each of its numbers as an f64
abbrev pub carried : Section → Preview
carried s =
    record {
      alpha = float s.band.alpha;
      beta = float s.band.beta;
      gamma = float s.band.gamma;
      x1 = float s.x1;
      x2 = float s.x2;
      y1 = float s.y1;
      y2 = float s.y2;
    }

-- what a step gives that carries a section's answer: the preview of the section after it, and the remainder as an f64
abbrev pub carried_step : Stepped → PreviewStep
carried_step r = record { preview = carried r.section; remainder = float r.remainder }

-- the section that a preview carries: its floats are whole, so each is the nearest whole number to itself
abbrev pub section_in : Preview → Section
section_in p =
    record {
      band = band_of (whole_of p.alpha) (whole_of p.beta) (whole_of p.gamma);
      x1 = whole_of p.x1;
      x2 = whole_of p.x2;
      y1 = whole_of p.y1;
      y2 = whole_of p.y2;
    }

-- "zero is plus zero inside it": none of the preview's numbers is minus zero
pub record PlusZero (p : Preview) : Type 0 where
  pub alpha_plus : is_minus_zero p.alpha ≡ false
  pub beta_plus : is_minus_zero p.beta ≡ false
  pub gamma_plus : is_minus_zero p.gamma ≡ false
  pub x1_plus : is_minus_zero p.x1 ≡ false
  pub x2_plus : is_minus_zero p.x2 ≡ false
  pub y1_plus : is_minus_zero p.y1 ≡ false
  pub y2_plus : is_minus_zero p.y2 ≡ false

-- what a step asks: the preview carries a section, and that section accepts a step on x
pub record StepAsks (p : Preview) (x : ℤ) : Type 0 where
  pub carries : p ≡ carried (section_in p)
  pub accepted : is_accepted (step_verdict (section_in p) x) ≡ true

-- what limiting asks of a number: whole, and at most 2^53 in size
pub record LimitWordAsks (rounded : Float) : Type 0 where
  pub whole : rounded ≡ float (whole_of rounded)
  pub small : nat_abs (whole_of rounded) ≤ 2 ^ prec binary64

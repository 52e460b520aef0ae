-- A band's words are those that were passed, and a flag passes as 1 or 0. A refused step leaves every lent number as it was, and all it answers beside the refusal's number is 0.
use mathlib.Core.Path.{◌≡◌, refl, sym, ap, ◌∙◌}
use mathlib.Core.Bool.{Bool, true, false, cond}
use mathlib.Core.List.{List, [], ◌∷◌}
use native.Mathlib.Omega.{arith}
use lib.IntN.{ℤ, pos}
use lib.ListN.{length}
use mir.Syntax.{w32}
use mir.Val.{SFits, to_z, of_z, bool_byte}
use mir.Facts.{to_z-of_z}
use Rattle.std.specs.Prelude.{Result, Ok, Err}
use Rattle.refusals.specs.declared.Refusal.{Refusal}
use Rattle.refusals.specs.Numbers.{Verdict, refusal_number, number_of, is_accepted, first_of}
use Rattle.refusals.proofs.Laws.{never}
use Rattle.bands.specs.Bands.{band_of}
use Rattle.section.specs.Equation.{flag}
use Rattle.section.specs.declared.Section.{Section}
use Rattle.section.specs.declared.Stepped.{Stepped}
use Rattle.section.specs.Step.{step_verdict, accepted_step, refused, stepped, step_answer}
use Rattle.lending.specs.Layout.{lone_section, lone_numbers, answer_with, answer_of}

-- the band of three words that were passed
pub band_reads : {a b g : ℤ} → SFits w32 a → SFits w32 b → SFits w32 g → band_of (to_z w32 (of_z w32 a)) (to_z w32 (of_z w32 b)) (to_z w32 (of_z w32 g)) ≡ band_of a b g
band_reads h k l i = band_of (to_z-of_z h i) (to_z-of_z k i) (to_z-of_z l i)

-- a flag's byte is its number
pub flag_byte : (b : Bool) → bool_byte b ≡ flag b
flag_byte true = refl
flag_byte false = refl

-- the answer of a refused step
refused_is : (s : Section) (x : ℤ) → is_accepted (step_verdict s x) ≡ false → stepped s x ≡ refused s
unfolding stepped
refused_is s x e = ap (λ (b : Bool). cond b (accepted_step s x) (refused s)) e

-- ---- what a step answers

abbrev step_of : Stepped → Result Stepped Refusal → Stepped
step_of other (Ok step) = step
step_of other (Err refusal) = other

module _ (s : Section) (x : ℤ) where
  -- an answered step is the step of the definition, and accepted
  pub step_accepted : {r : Stepped} → step_answer s x ≡ Ok r → (r ≡ stepped s x) × (number_of (step_verdict s x) ≡ 0)
  unfolding step_answer stepped
  step_accepted {r} = go (step_verdict s x) refl
    where
      go : (v : Verdict) → step_verdict s x ≡ v → first_of v (Ok (accepted_step s x)) ≡ Ok r → (r ≡ cond (is_accepted (step_verdict s x)) (accepted_step s x) (refused s)) × (number_of (step_verdict s x) ≡ 0)
      go (Ok done) e h = (
        sym (ap (step_of r) h) ∙ sym (ap (λ (v : Verdict). cond (is_accepted v) (accepted_step s x) (refused s)) e),
        ap number_of e,
      )
      go (Err refusal) e h = never false refl (ap is_accepted h)

  -- a refused one changes nothing
  pub step_refused : {f : Refusal} → step_answer s x ≡ Err f → (refused s ≡ stepped s x) × (refusal_number f ≡ number_of (step_verdict s x))
  unfolding step_answer stepped
  step_refused {f} = go (step_verdict s x) refl
    where
      go : (v : Verdict) → step_verdict s x ≡ v → first_of v (Ok (accepted_step s x)) ≡ Err f → (refused s ≡ cond (is_accepted (step_verdict s x)) (accepted_step s x) (refused s)) × (refusal_number f ≡ number_of (step_verdict s x))
      go (Ok done) e h = never true (ap is_accepted h) refl
      go (Err refusal) e h = (
        sym (ap (λ (v : Verdict). cond (is_accepted v) (accepted_step s x) (refused s)) e),
        sym (ap number_of h) ∙ sym (ap number_of e),
      )

-- seven numbers are those of the section that they stand for
pub seven : (l : List ℤ) → length l ≡ 7 → l ≡ lone_numbers (lone_section l)
seven [] h = absurd (omega arith)
seven (a ∷ []) h = absurd (omega arith)
seven (a ∷ b ∷ []) h = absurd (omega arith)
seven (a ∷ b ∷ g ∷ []) h = absurd (omega arith)
seven (a ∷ b ∷ g ∷ x1 ∷ []) h = absurd (omega arith)
seven (a ∷ b ∷ g ∷ x1 ∷ x2 ∷ []) h = absurd (omega arith)
seven (a ∷ b ∷ g ∷ x1 ∷ x2 ∷ y1 ∷ []) h = absurd (omega arith)
seven (a ∷ b ∷ g ∷ x1 ∷ x2 ∷ y1 ∷ y2 ∷ []) h = refl
seven (a ∷ b ∷ g ∷ x1 ∷ x2 ∷ y1 ∷ y2 ∷ z ∷ rest) h = absurd (omega arith)

module _ (a b g x1 x2 y1 y2 x : ℤ) where
  abbrev lent : List ℤ
  lent = a ∷ b ∷ g ∷ x1 ∷ x2 ∷ y1 ∷ y2 ∷ []

  pub refused_unchanged : is_accepted (step_verdict (lone_section lent) x) ≡ false → lone_numbers (stepped (lone_section lent) x).section ≡ lent
  refused_unchanged e = ap (λ (r : Stepped). lone_numbers r.section) (refused_is (lone_section lent) x e)

  pub refused_number : is_accepted (step_verdict (lone_section lent) x) ≡ false → answer_of (lone_section lent) x ≡ record { y = pos 0; remainder = pos 0; limited = 0; refusal = number_of (step_verdict (lone_section lent) x) }
  refused_number e = ap (answer_with (number_of (step_verdict (lone_section lent) x))) (refused_is (lone_section lent) x e)

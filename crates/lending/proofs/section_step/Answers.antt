-- `lending::section_step` meets its contract: the seven numbers are read into a section, and those of the section after the
-- step are stored.
use mathlib.Core.Path.{◌≡◌, sym, ap, ◌∙◌}
use mathlib.Core.List.{List}
use native.Mathlib.Omega.{arith}
use lib.IntN.{ℤ, pos}
use lib.ListN.{get_or}
use mir.Syntax.{w32}
use mir.Facts.{to_z-of_z}
use Rattle.integers.proofs.Machine.{reads_back}
use Rattle.section.specs.declared.Stepped.{Stepped}
use Rattle.section.specs.Equation.{flag}
use Rattle.section.specs.Step.{step_answer}
use Rattle.lending.specs.Layout.{lone_section, lone_numbers}
use Rattle.lending.proofs.Laws.{step_accepted, step_refused, seven, flag_byte}
use Rattle.lending.proofs.section_step.Goals.{After-step}
use Rattle.lending.proofs.section_step.Goals as goal

-- the answer is that of the section as lent
module _ (c : After-step) where
  abbrev l : List ℤ
  l = c.args.numbers.now

  answer-is : c.step.result ≡ step_answer (lone_section l) c.args.x
  answer-is =
      c.step.ensures.0
      ∙ (λ i. step_answer
      (record {
        band = record { alpha = reads_back w32 (get_or l 0 (pos 0)) (omega arith) i; beta = reads_back w32 (get_or l 1 (pos 0)) (omega arith) i; gamma = reads_back w32 (get_or l 2 (pos 0)) (omega arith) i };
        x1 = reads_back w32 (get_or l 3 (pos 0)) (omega arith) i;
        x2 = reads_back w32 (get_or l 4 (pos 0)) (omega arith) i;
        y1 = reads_back w32 (get_or l 5 (pos 0)) (omega arith) i;
        y2 = reads_back w32 (get_or l 6 (pos 0)) (omega arith) i;
      })
      (to_z-of_z c.ranges.x i))

pub returns-in-Ok : goal.returns-in-Ok
returns-in-Ok c =
    let told = step_accepted (lone_section c.args.numbers.now) c.args.x (sym (answer-is (goal.at.returns-in-Ok c).After-step) ∙ c.in-Ok.is) in (
      (λ i. record {
        y = (reads_back w32 c.in-Ok.stepped.y (omega arith) ∙ ap (λ (r : Stepped). r.y) told.0) i;
        remainder = (reads_back w32 c.in-Ok.stepped.remainder (omega arith) ∙ ap (λ (r : Stepped). r.remainder) told.0) i;
        limited = (c.from.ensures ∙ flag_byte c.in-Ok.stepped.limited ∙ ap (λ (r : Stepped). flag r.limited) told.0) i;
        refusal = sym told.1 i;
      }),
      c.store.ensures ∙ ap (λ (r : Stepped). lone_numbers r.section) told.0,
    )

pub returns-in-Err : goal.returns-in-Err
returns-in-Err c =
    let told = step_refused (lone_section c.args.numbers.now) c.args.x (sym (answer-is (goal.at.returns-in-Err c).After-step) ∙ c.in-Err.is) in (
      (λ i. record {
        y = ap (λ (r : Stepped). r.y) told.0 i;
        remainder = ap (λ (r : Stepped). r.remainder) told.0 i;
        limited = ap (λ (r : Stepped). flag r.limited) told.0 i;
        refusal = (c.number.ensures ∙ told.1) i;
      }),
      seven c.args.numbers.now (omega arith) ∙ ap (λ (r : Stepped). lone_numbers r.section) told.0,
    )

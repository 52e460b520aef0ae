-- `packing::put_sections` meets its contract. The loop's invariant: the sections below b are stored.
use mathlib.Core.Path.{◌≡◌, refl, sym, ap, ap₂, ◌∙◌, subst}
use mathlib.Core.List.{List}
use Prim.Native.Nat.{ℕ, ◌+◌, ◌*◌}
use native.Mathlib.Omega.{arith}
use lib.ListN.{length, get_or}
use lib.Ieee.{Float}
use borrow.Author.Rules.{rules}
use Rattle.lists.proofs.Tabulate.{each_get_d}
use Rattle.unit.specs.Cleared.{cleared_band_section}
use Rattle.unit.specs.Fit.{SectionFit}
use Rattle.engine.specs.declared.FloatSection.{FloatSection}
use Rattle.engine.specs.Floats.{float_section}
use Rattle.engine.specs.Layout.{section_floats, first_side, second_side, put_section}
use Rattle.engine.proofs.Store.{section_length}
use Rattle.engine.proofs.Read.{sections_read}
use Rattle.packing.proofs.Sections.{Filled, filled_more}
use Rattle.packing.proofs.put_sections.Goals as goal

pub loop-b-init : goal.loop-b-init
loop-b-init c =
    record {
      most = search rules;
      size = c.requires.size;
      whole = c.requires.whole;
      behind = λ j h. refl;
      first = λ k h. absurd (omega arith);
      second = λ k h. absurd (omega arith);
    }

pub section_floats-requires : goal.section_floats-requires
section_floats-requires c =
    each_get_d SectionFit c.args.first cleared_band_section c.requires.first_fit c.loop-b.b (omega arith)

pub section_floats-requires-in-loop-b : goal.section_floats-requires-in-loop-b
section_floats-requires-in-loop-b c =
    each_get_d SectionFit c.args.second cleared_band_section c.requires.second_fit c.loop-b.b (omega arith)

pub put_section-requires-in-loop-b : goal.put_section-requires-in-loop-b
put_section-requires-in-loop-b c =
    omega (arith, c.loop-b.invariant.size, ap length c.put_section.ensures, section_length c.loop-b.pair (section_floats * c.loop-b.b) c.section_floats.result)

pub loop-b-preserved : goal.loop-b-preserved
loop-b-preserved c =
    subst (λ (m : List Float). Filled c.args.pair.now c.args.first c.args.second (b + 1) m) (sym is)
    (filled_more c.args.pair.now c.args.first c.args.second b m (omega arith) c.loop-b.invariant
    (each_get_d SectionFit c.args.first cleared_band_section c.requires.first_fit b (omega arith))
    (each_get_d SectionFit c.args.second cleared_band_section c.requires.second_fit b (omega arith)))
  where
    b : ℕ
    b = c.loop-b.b

    m : List Float
    m = c.loop-b.pair

    is : c.put_section-in-loop-b.new.pair ≡ put_section (put_section m (section_floats * b) (float_section (get_or c.args.first b cleared_band_section))) (section_floats * b + 1) (float_section (get_or c.args.second b cleared_band_section))
    is =
        c.put_section-in-loop-b.ensures
        ∙ ap₂ (λ (l : List Float) (z : FloatSection). put_section l (section_floats * b + 1) z)
        (c.put_section.ensures ∙ ap (λ (z : FloatSection). put_section m (section_floats * b) z) c.section_floats.ensures)
        c.section_floats-in-loop-b.ensures

pub returns : goal.returns
returns c =
    record {
      size = inv.size;
      whole = inv.whole;
      behind = inv.behind;
      first = sections_read c.loop-b.pair first_side c.args.first (omega arith) (λ k h. inv.first k (omega arith));
      second = sections_read c.loop-b.pair second_side c.args.second (omega arith) (λ k h. inv.second k (omega arith));
    }
  where
    inv : Filled c.args.pair.now c.args.first c.args.second c.loop-b.b c.loop-b.pair
    inv = c.loop-b.invariant

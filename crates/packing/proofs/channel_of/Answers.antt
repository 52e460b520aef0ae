-- `packing::channel_of` meets its contract. The loop's invariant: the sections below b are those of the side.
use mathlib.Core.Path.{refl, sym, ap, ◌∙◌, subst}
use Prim.Native.Nat.{ℕ, ◌<◌}
use native.Mathlib.Omega.{arith}
use lib.IntN.{ℤ}
use mir.Syntax.{w64}
use Rattle.integers.proofs.Machine.{reads_back}
use Rattle.lists.proofs.Loops.{tabulated_begin, tabulated_next, tabulated_done}
use Rattle.floats.specs.Whole.{whole_of}
use Rattle.engine.specs.Floats.{float_at, band_section_in}
use Rattle.engine.specs.Layout.{side_count}
use Rattle.packing.specs.Packing.{SectionOfAsks}
use Rattle.packing.proofs.Sides.{places, section_asks, section_is, x1_carries, x2_carries, flag_carries}
use Rattle.packing.proofs.channel_of.Goals as goal

pub section_of-requires : goal.section_of-requires
section_of-requires c =
    subst SectionOfAsks (sym c.section_at.ensures)
    (section_asks c.args.pair.now c.args.side c.requires c.loop-b.b (omega arith))

pub loop-b-preserved : goal.loop-b-preserved
loop-b-preserved c =
    tabulated_next c.loop-b.invariant (omega arith)
    (c.section_of.ensures ∙ ap band_section_in c.section_at.ensures
    ∙ section_is c.args.pair.now c.args.side c.requires c.loop-b.b (omega arith))

pub whole_of-x1-requires : goal.whole_of-x1-requires
whole_of-x1-requires c = x1_carries c.args.pair.now c.args.side c.requires

pub whole_of-x2-requires : goal.whole_of-x2-requires
whole_of-x2-requires c = x2_carries c.args.pair.now c.args.side c.requires

pub whole_of-flag-requires : goal.whole_of-flag-requires
whole_of-flag-requires c = flag_carries c.args.pair.now c.args.side c.requires

pub returns : goal.returns
returns c =
    λ i.
    record {
      x1 = (reads_back w64 c.whole_of-x1.result (omega arith) ∙ c.whole_of-x1.ensures ∙ ap number (places side below).x1) i;
      x2 = (reads_back w64 c.whole_of-x2.result (omega arith) ∙ c.whole_of-x2.ensures ∙ ap number (places side below).x2) i;
      flag = (reads_back w64 c.whole_of-flag.result (omega arith) ∙ c.whole_of-flag.ensures ∙ ap number (places side below).flag) i;
      sections = tabulated_done c.loop-b.invariant (omega arith) i;
    }
  where
    side : ℕ
    side = c.args.side

    below : side < side_count
    below = c.requires.below

    number : ℕ → ℤ
    number k = whole_of (float_at c.args.pair.now k)

pub loop-b-init : goal.loop-b-init
loop-b-init c =
    tabulated_begin refl

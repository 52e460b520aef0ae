-- `packing::section_floats` meets its contract: a fit section's numbers are at most 2^23 in size.
use mathlib.Core.Path.{sym, ap, ◌∙◌, subst}
use Prim.Native.Nat.{◌≤◌}
use native.Mathlib.Nat.{le_trans}
use native.Mathlib.Omega.{arith}
use lib.Dec.{lit≤}
use lib.IntN.{ℤ, nat_abs}
use mir.Syntax.{w64}
use Rattle.integers.proofs.Machine.{reads_back}
use Rattle.words.specs.Words.{word_size}
use Rattle.words.proofs.Laws.{word_size_lem}
use Rattle.floats.specs.Whole.{float}
use Rattle.unit.specs.declared.BandSection.{BandSection}
use Rattle.unit.proofs.Ranges.{remainder-size}
use Rattle.packing.proofs.section_floats.Goals as goal

pub level_floats-requires : goal.level_floats-requires
level_floats-requires c =
    record {
      present_size = word_size_lem c.args.section.gain.present c.requires.present;
      target_size = word_size_lem c.args.section.gain.target c.requires.target;
    }

pub float_of-requires : goal.float_of-requires
float_of-requires c =
    subst (λ (z : ℤ). nat_abs z ≤ word_size) (sym (reads_back w64 c.args.section.y1 (omega arith)))
    (word_size_lem c.args.section.y1 c.requires.y1)

pub float_of-requires-2 : goal.float_of-requires-2
float_of-requires-2 c =
    subst (λ (z : ℤ). nat_abs z ≤ word_size) (sym (reads_back w64 c.args.section.y2 (omega arith)))
    (word_size_lem c.args.section.y2 c.requires.y2)

pub float_of-requires-3 : goal.float_of-requires-3
float_of-requires-3 c =
    subst (λ (z : ℤ). nat_abs z ≤ word_size) (sym (reads_back w64 c.args.section.remainder (omega arith)))
    (le_trans (remainder-size c.args.section.remainder c.requires.remainder) (lit≤ tt))

pub returns : goal.returns
returns c =
    λ i.
    record {
      y1 = (c.float_of.ensures ∙ ap float (reads_back w64 s.y1 (omega arith))) i;
      y2 = (c.float_of-2.ensures ∙ ap float (reads_back w64 s.y2 (omega arith))) i;
      gain = c.level_floats.ensures i;
      remainder = (c.float_of-3.ensures ∙ ap float (reads_back w64 s.remainder (omega arith))) i;
    }
  where
    s : BandSection
    s = c.args.section

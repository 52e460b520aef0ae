-- `writing::put_sections` meets its contract. The loop's invariant: laid at the place that is reached, the lines from line i on make the whole.
use mathlib.Core.Bool.{true, false}
use native.Mathlib.Omega.{arith}
use lib.ListN.{length, get_or}
use Rattle.lists.proofs.Tabulate.{each_get_d}
use Rattle.unit.specs.Cleared.{cleared_band_section}
use Rattle.unit.specs.Frame.{feeds_back}
use Rattle.unit.specs.Fit.{SectionFit}
use Rattle.forms.proofs.Texts.{onward_size, onward_room, onward_next}
use Rattle.sheet.proofs.Sizes.{section_length, sections_length, long_kind_at}
use Rattle.writing.proofs.put_sections.Goals as goal

pub put_section-next-requires : goal.put_section-next-requires
put_section-next-requires c =
    let l = c.loop-i in
    let whole = sections_length true c.args.sections (omega arith) in (
      omega (
        arith,
        onward_room l.invariant false cleared_band_section (omega arith) (omega arith) (long_kind_at l.i (omega arith)) {room = length c.args.out.now} (omega (arith, c.requires.0, whole)),
        section_length (feeds_back l.i) (get_or c.args.sections l.i cleared_band_section),
        onward_size l.invariant,
      ),
      each_get_d SectionFit c.args.sections cleared_band_section c.requires.1 l.i (omega arith),
    )

pub loop-i-preserved : goal.loop-i-preserved
loop-i-preserved c =
    let l = c.loop-i in
    let found = c.put_section-next in
    onward_next l.invariant false cleared_band_section (omega arith) (omega arith) (long_kind_at l.i (omega arith)) found.ensures.0
    (omega (arith, found.ensures.1, section_length (feeds_back l.i) (get_or c.args.sections l.i cleared_band_section)))

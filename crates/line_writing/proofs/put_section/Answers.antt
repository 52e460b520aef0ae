-- `line_writing::put_section` meets its contract: of its five numbers, which lose nothing in 32 bits, as many as the line has stand in it.
use mathlib.Core.Bool.{true}
use mathlib.Core.List.{List, [], ◌∷◌}
use mathlib.Core.Path.{◌≡◌, ap, ap₂, ◌∙◌}
use Prim.Native.Nat.{ℕ, ◌+◌}
use lib.IntN.{ℤ}
use lib.ListN.{take}
use lib.Seq.{sets}
use mir.Syntax.{w32, w64}
use mir.Val.{to_z, of_z}
use Rattle.words.proofs.Laws.{word_size_lem, narrow_reads}
use Rattle.unit.specs.declared.BandSection.{BandSection}
use Rattle.unit.specs.Fit.{SectionFit}
use Rattle.forms.specs.Line.{line_text}
use Rattle.sheet.specs.Lines.{section_letter, section_row}
use Rattle.sheet.proofs.Sizes.{row_front}
use Rattle.line_writing.proofs.Runs.{remainder_small}
use Rattle.line_writing.proofs.put_section.Goals as goal

-- a number that goes from 64 bits to 32
abbrev narrowed : ℤ → ℤ
narrowed z = to_z w32 (of_z w32 (to_z w64 (of_z w64 z)))

row_reads : (s : BandSection) → SectionFit s → narrowed s.y1 ∷ narrowed s.y2 ∷ narrowed s.gain.present ∷ narrowed s.gain.target ∷ narrowed s.remainder ∷ [] ≡ section_row true s
row_reads s f =
    λ i.
    narrow_reads s.y1 (word_size_lem s.y1 f.y1) i ∷ narrow_reads s.y2 (word_size_lem s.y2 f.y2) i ∷ narrow_reads s.gain.present (word_size_lem s.gain.present f.present) i ∷ narrow_reads s.gain.target (word_size_lem s.gain.target f.target) i ∷ narrow_reads s.remainder (remainder_small s.remainder f.remainder) i ∷ []

pub returns : goal.returns
returns c = (
  c.put_line.ensures
      ∙ ap₂ (λ (n : ℕ) (row : List ℤ). sets c.args.out.now c.args.at (line_text section_letter (take n row))) c.section_fields.ensures (row_reads c.args.section c.requires.1)
      ∙ ap (λ (row : List ℤ). sets c.args.out.now c.args.at (line_text section_letter row)) (row_front c.args.fifth c.args.section),
  ap (λ (n : ℕ). c.args.at + n) c.section_line.ensures,
)

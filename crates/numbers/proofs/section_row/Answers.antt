-- `numbers::section_row` meets its contract: the five numbers lose nothing in 32 bits.
use mathlib.Core.List.{[], ◌∷◌}
use Rattle.words.proofs.Laws.{word_size_lem, narrow_reads}
use Rattle.unit.specs.declared.BandSection.{BandSection}
use Rattle.numbers.proofs.Sizes.{remainder_small}
use Rattle.numbers.proofs.section_row.Goals as goal

pub returns : goal.returns
returns c =
    λ i.
    narrow_reads s.y1 (word_size_lem s.y1 c.requires.y1) i ∷ narrow_reads s.y2 (word_size_lem s.y2 c.requires.y2) i ∷ narrow_reads s.gain.present (word_size_lem s.gain.present c.requires.present) i ∷ narrow_reads s.gain.target (word_size_lem s.gain.target c.requires.target) i ∷ narrow_reads s.remainder (remainder_small s.remainder c.requires.remainder) i ∷ []
  where
    s : BandSection
    s = c.args.section

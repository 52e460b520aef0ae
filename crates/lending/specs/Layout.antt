-- Sections and answers as numbers, as the static library passes them. Definitions only.
use Rattle.std.specs.Prelude.{◌≡◌, List, [], ◌∷◌, ℕ, ℤ, pos, length, get_or}
use Rattle.refusals.specs.Numbers.{number_of}
use Rattle.bands.specs.Bands.{band_of}
use Rattle.bands.specs.declared.Band.{Band}
use Rattle.section.specs.Equation.{flag}
use Rattle.section.specs.declared.Section.{Section}
use Rattle.section.specs.declared.Stepped.{Stepped}
use Rattle.section.specs.Step.{step_verdict, stepped}
use Rattle.preview.specs.Preview.{Buffers, preview_verdict, previewed}
use Rattle.unit.specs.Sizes.{channel_count}
use Rattle.settings.specs.declared.Setting.{Setting}
use Rattle.orders.specs.Orders.{ordered}
use Rattle.blocks.specs.Block.{block_played, block_output}
use Rattle.sheet.specs.Sheet.{side_letters}
use Rattle.writing.specs.Written.{filled_count, filled}
use Rattle.reading.specs.Reading.{sheet_read}
use Rattle.numbers.specs.Layout.{unit_of, numbers_after}
use Rattle.lending.specs.declared.StepAnswer.{StepAnswer}

-- a section is seven numbers: A, B, G, x1, x2, y1, y2
abbrev pub lone_section : List ℤ → Section
lone_section l =
    record {
      band = band_of (get_or l 0 (pos 0)) (get_or l 1 (pos 0)) (get_or l 2 (pos 0));
      x1 = get_or l 3 (pos 0);
      x2 = get_or l 4 (pos 0);
      y1 = get_or l 5 (pos 0);
      y2 = get_or l 6 (pos 0);
    }

abbrev pub lone_numbers : Section → List ℤ
lone_numbers s = s.band.alpha ∷ s.band.beta ∷ s.band.gamma ∷ s.x1 ∷ s.x2 ∷ s.y1 ∷ s.y2 ∷ []

-- a step's answer as numbers: y, the remainder, 1 where the section has limited, and the refusal's number
abbrev pub answer_with : ℕ → Stepped → StepAnswer
answer_with number r = record { y = r.y; remainder = r.remainder; limited = flag r.limited; refusal = number }

abbrev pub answer_of : Section → ℤ → StepAnswer
answer_of s x = answer_with (number_of (step_verdict s x)) (stepped s x)

-- a preview: the refusal's number, and the two buffers
pub record PreviewGives (band : Band) (words : List ℤ) (lent : Buffers) (number : ℕ) (after : Buffers) : Type 0 where
  pub number_is : number ≡ number_of (preview_verdict band words (length lent.results) (length lent.remainders))
  pub buffers_are : after ≡ previewed band words lent

-- ---- calls on a unit's numbers

-- a block: the refusal's number, the numbers after it, and the output
pub record BlockGives (l : List ℤ) (input room : List ℕ) (number : ℕ) (after : List ℤ) (filled : List ℕ) : Type 0 where
  pub number_is : number ≡ number_of (block_played channel_count (unit_of l) input (length room)).verdict
  pub numbers_are : after ≡ numbers_after l (block_played channel_count (unit_of l) input (length room)).verdict (block_played channel_count (unit_of l) input (length room)).unit
  pub output_is : filled ≡ block_output channel_count (unit_of l) input room

-- a level order: the refusal's number, and the numbers after it
pub record OrderGives (l : List ℤ) (side band : ℕ) (setting : Setting) (number : ℕ) (after : List ℤ) : Type 0 where
  pub number_is : number ≡ number_of (ordered channel_count (unit_of l) side band setting).verdict
  pub numbers_are : after ≡ numbers_after l (ordered channel_count (unit_of l) side band setting).verdict (ordered channel_count (unit_of l) side band setting).unit

-- a sheet that is written: the count of its bytes, and the buffer
pub record SheetWriteGives (l : List ℤ) (room : List ℕ) (count : ℕ) (after : List ℕ) : Type 0 where
  pub count_is : count ≡ filled_count side_letters (unit_of l) (length room)
  pub buffer_is : after ≡ filled side_letters (unit_of l) room

-- a sheet that is read: the refusal's number, and the numbers after it
pub record SheetReadGives (l : List ℤ) (bytes : List ℕ) (number : ℕ) (after : List ℤ) : Type 0 where
  pub number_is : number ≡ number_of (sheet_read side_letters bytes (unit_of l)).verdict
  pub numbers_are : after ≡ numbers_after l (sheet_read side_letters bytes (unit_of l)).verdict (sheet_read side_letters bytes (unit_of l)).unit

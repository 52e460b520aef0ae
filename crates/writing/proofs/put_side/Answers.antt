-- `writing::put_side` meets its contract: the numbers of the head lose nothing in 32 bits, and the ten S lines stand behind it.
use mathlib.Core.Path.{◌≡◌, refl, ap, ◌∙◌}
use mathlib.Core.Bool.{true}
use mathlib.Core.List.{List, [], ◌∷◌}
use Prim.Native.Nat.{◌+◌}
use native.Mathlib.Omega.{arith}
use lib.IntN.{ℤ}
use lib.ListN.{length}
use lib.Seq.{sets}
use mir.Syntax.{w32, w64}
use mir.Val.{to_z, of_z}
use Rattle.lists.proofs.Stores.{sets_behind}
use Rattle.words.proofs.Laws.{narrow_need, narrow_reads}
use Rattle.unit.specs.declared.Channel.{Channel}
use Rattle.unit.specs.Fit.{ChannelFit}
use Rattle.unit.proofs.Ranges.{input_size, flag-size}
use Rattle.forms.specs.Line.{line_size}
use Rattle.forms.proofs.Line.{text_length}
use Rattle.sheet.specs.Lines.{head_ranges, head_row, head_form}
use Rattle.sheet.specs.Sheet.{sections_form}
use Rattle.writing.proofs.put_side.Goals as goal

-- the numbers of a head go from 64 bits to 32
abbrev narrowed : ℤ → ℤ
narrowed z = to_z w32 (of_z w32 (to_z w64 (of_z w64 z)))

head_reads : (c : Channel) → ChannelFit c → narrowed c.x1 ∷ narrowed c.x2 ∷ narrowed c.flag ∷ [] ≡ head_row c
head_reads c f =
    λ i.
    narrow_reads c.x1 (input_size c.x1 f.x1) i ∷ narrow_reads c.x2 (input_size c.x2 f.x2) i ∷ narrow_reads c.flag (flag-size c.flag f.flag) i ∷ []

pub overflow_cast-channel-3 : goal.overflow_cast-channel-3
overflow_cast-channel-3 c = narrow_need c.args.channel.flag (flag-size c.args.channel.flag c.requires.1.flag)

pub returns : goal.returns
returns c = (
  sets_behind c.args.out.now ((head_form c.args.letter).text (head_row channel)) ((sections_form true).text channel.sections) c.args.at (c.args.at + line_size (length head_ranges)) (omega (arith, text_length c.args.letter (head_row channel)))
      (c.put_head.ensures ∙ ap (λ (row : List ℤ). sets c.args.out.now c.args.at ((head_form c.args.letter).text row)) (head_reads channel c.requires.1))
      c.put_sections.ensures,
  refl,
)
  where
    channel : Channel
    channel = c.args.channel

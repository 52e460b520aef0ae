-- `numbers::head_row` meets its contract: the three numbers lose nothing in 32 bits.
use mathlib.Core.List.{[], ◌∷◌}
use Rattle.words.proofs.Laws.{narrow_reads}
use Rattle.unit.proofs.Ranges.{input_size}
use Rattle.numbers.proofs.Sizes.{flag_small}
use Rattle.numbers.proofs.head_row.Goals as goal

pub returns : goal.returns
returns c =
    λ i.
    narrow_reads c.args.channel.x1 (input_size c.args.channel.x1 c.requires.x1) i ∷ narrow_reads c.args.channel.x2 (input_size c.args.channel.x2 c.requires.x2) i ∷ narrow_reads c.args.channel.flag (flag_small c.args.channel.flag c.requires.flag) i ∷ []

-- `lending::block` meets its contract: the verdict as its number.
use mathlib.Core.Path.{ap, ◌∙◌}
use Rattle.refusals.specs.Numbers.{number_of}
use Rattle.lent_blocks.specs.Play.{PlayGives}
use Rattle.lending.proofs.block.Goals as goal

pub returns : goal.returns
returns c =
    record {
      number_is = c.number.ensures ∙ ap number_of g.verdict_is;
      numbers_are = g.numbers_are;
      output_is = g.output_is;
    }
  where
    g : PlayGives c.args.numbers.now c.args.input.now c.args.output.now c.play-verdict.result c.play-verdict.new.numbers c.play-verdict.new.output
    g = c.play-verdict.ensures

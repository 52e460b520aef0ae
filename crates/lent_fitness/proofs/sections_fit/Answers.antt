-- `lent_fitness::sections_fit` meets its contract: numbers and remainders are tested for all sections, and those of plain sections again.
use mathlib.Core.Path.{◌≡◌, ap₂, ◌∙◌}
use mathlib.Core.Bool.{◌&&◌}
use mathlib.Core.List.{List}
use native.Mathlib.Omega.{arith}
use lib.IntN.{ℤ}
use lib.ListN.{drop}
use Rattle.std.specs.List.{list_all}
use Rattle.unit.specs.Frame.{feedback_count}
use Rattle.unit.specs.Fit.{is_remainder, is_plain}
use Rattle.numbers.specs.Layout.{channel_of}
use Rattle.lent_fitness.proofs.Laws.{remainder_fits, sections_fit_lem}
use Rattle.lent_fitness.proofs.sections_fit.Goals.{After-remainders_fit-plain}
use Rattle.lent_fitness.proofs.sections_fit.Goals as goal

-- the tests of the remainders are those of the channel's sections
module _ (c : After-remainders_fit-plain) where
  abbrev l : List ℤ
  l = c.args.channel.now

  remainders-test : c.remainders_fit-remainders.result ≡ list_all remainder_fits (channel_of l).sections
  unfolding is_remainder
  remainders-test = c.remainders_fit-remainders.ensures

  plain-test : c.remainders_fit-plain.result ≡ list_all is_plain (drop feedback_count (channel_of l).sections)
  unfolding is_plain
  plain-test = c.remainders_fit-plain.ensures

pub returns : goal.returns
returns c =
    ap₂ ◌&&◌ (ap₂ ◌&&◌ c.are_words-words.ensures (remainders-test c) ∙ sections_fit_lem (l c) (omega arith)) (plain-test c)

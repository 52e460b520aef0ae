-- `lent_fitness::volume_fits` meets its contract: its two tests are those of the definition.
use mathlib.Core.Path.{ap₂}
use mathlib.Core.Bool.{◌&&◌}
use native.Mathlib.Omega.{arith}
use lib.IntN.{pos}
use lib.ListN.{get_or}
use mir.Syntax.{w32}
use Rattle.integers.proofs.Machine.{test_back}
use Rattle.rounding.specs.Rounding.{within}
use Rattle.words.specs.Words.{word_high}
use Rattle.unit.specs.Fit.{is_volume}
use Rattle.numbers.specs.Layout.{unit_of}
use Rattle.lent_fitness.proofs.volume_fits.Goals as goal

pub returns : goal.returns
unfolding unit_of is_volume
returns c =
    let l = c.args.numbers.now in
    ap₂ ◌&&◌
    (test_back (within (pos 0) word_high) w32 (get_or l 0 (pos 0)) (omega arith) c.in_range-present.ensures)
    (test_back (within (pos 0) word_high) w32 (get_or l 1 (pos 0)) (omega arith) c.in_range-target.ensures)

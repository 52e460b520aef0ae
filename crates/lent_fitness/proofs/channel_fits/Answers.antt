-- `lent_fitness::channel_fits` meets its contract: its four tests are those of the definition.
use native.Mathlib.Omega.{arith}
use lib.IntN.{pos}
use lib.ListN.{get_or}
use mir.Syntax.{w32}
use Rattle.integers.proofs.Machine.{test_back}
use Rattle.unit.specs.Fit.{is_input, is_flag}
use Rattle.lent_fitness.proofs.Laws.{in_row}
use Rattle.lent_fitness.proofs.channel_fits.Goals as goal

pub returns : goal.returns
unfolding is_flag
returns c =
    let l = c.args.channel.now in
    in_row (test_back is_input w32 (get_or l 0 (pos 0)) (omega arith) c.is_input-x1.ensures)
    (test_back is_input w32 (get_or l 1 (pos 0)) (omega arith) c.is_input-x2.ensures)
    (test_back is_flag w32 (get_or l 2 (pos 0)) (omega arith) c.in_range-flag.ensures)
    c.sections_fit-sections.ensures

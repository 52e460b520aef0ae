-- `lent_fitness::are_words` meets its contract: each number is tested.
use native.Mathlib.Omega.{arith}
use lib.IntN.{pos}
use lib.ListN.{get_or}
use mir.Syntax.{w32}
use Rattle.integers.proofs.Machine.{test_back}
use Rattle.lists.proofs.Loops.{found_begin, found-next, found_done}
use Rattle.words.specs.Words.{is_word}
use Rattle.lent_fitness.proofs.are_words.Goals as goal

pub loop-number-init : goal.loop-number-init
loop-number-init c = found_begin (omega arith)

pub loop-number-preserved : goal.loop-number-preserved
loop-number-preserved c =
    found-next c.loop-number.invariant (pos 0) (omega arith)
    (test_back is_word w32 (get_or c.args.numbers.now c.loop-number.number-index (pos 0)) (omega arith) c.is_word-words.ensures)

pub returns : goal.returns
returns c = found_done c.loop-number.invariant (omega arith)

-- `lent_fitness::are_words` meets its contract. The loop's invariant: what is found so far is the test of the numbers so far.
use Rattle.lists.proofs.Loops.{EveryFound}
use Rattle.words.specs.Words.{is_word}
use Rattle.lent_fitness.proofs.are_words.Given as goal

abbrev pub invariant-loop-number : goal.invariant-loop-number
invariant-loop-number l = EveryFound is_word l.numbers 0 l.words l.number-index

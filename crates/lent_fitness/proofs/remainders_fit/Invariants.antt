-- `lent_fitness::remainders_fit` meets its contract. The loop's invariant: what is found so far is the test of the sections below b.
use Rattle.lists.proofs.Loops.{EveryFound}
use Rattle.numbers.specs.Layout.{channel_of}
use Rattle.lent_fitness.specs.Remainders.{remainder_within}
use Rattle.lent_fitness.proofs.remainders_fit.Given as goal

abbrev pub invariant-loop-b : goal.invariant-loop-b
invariant-loop-b l = EveryFound (remainder_within l.least l.most) (channel_of l.channel).sections l.first l.fit l.b

-- `lent_packing::store` meets its contract: the volume stored, then the runs of the sections and those of x1, x2 and the flag.
use mathlib.Core.Path.{◌∙◌}
use Prim.Native.Nat.{ℕ, ◌<◌}
use native.Mathlib.Omega.{arith}
use lib.Dec.{lit≤}
use lib.ListN.{length-set}
use mir.Syntax.{w32}
use Rattle.integers.proofs.Machine.{reads_back}
use Rattle.words.specs.Words.{word_size}
use Rattle.engine.specs.Floats.{Carries, float_at}
use Rattle.engine.specs.Layout.{pair_floats}
use Rattle.lent_packing.proofs.Carry.{pair_carries}
use Rattle.lent_packing.proofs.Stored.{stored}
use Rattle.lent_packing.proofs.store.Goals.{Start}
use Rattle.lent_packing.proofs.store.Goals as goal

all-carry : (s : Start) → (j : ℕ) → j < pair_floats → Carries (float_at s.args.pair.now j) word_size
all-carry s = pair_carries s.args.pair.now s.requires.size s.requires.whole s.requires.first_fit s.requires.second_fit

pub take_runs-requires : goal.take_runs-requires
take_runs-requires c =
    let p = (goal.at.take_runs-requires c).Start in
    record {
      size = simp length-set c.requires.numbers_size;
      apart = lit≤ tt;
      inside = lit≤ tt;
      room = omega (arith, c.requires.size);
      carries = λ j u v. all-carry p j (omega arith);
    }

pub take_runs-requires-2 : goal.take_runs-requires-2
take_runs-requires-2 c =
    let p = (goal.at.take_runs-requires-2 c).Start in
    record {
      size = c.take_runs.ensures.size;
      apart = lit≤ tt;
      inside = lit≤ tt;
      room = omega (arith, c.requires.size);
      carries = λ j u v. all-carry p j (omega arith);
    }

pub returns : goal.returns
returns c =
    stored c.args.numbers.now c.requires.numbers_size c.args.volume c.args.pair.now _ _
    (reads_back w32 c.whole_of.result (omega arith) ∙ c.whole_of.ensures)
    (reads_back w32 c.whole_of-2.result (omega arith) ∙ c.whole_of-2.ensures)
    c.take_runs.new.numbers c.take_runs-2.new.numbers c.take_runs.ensures c.take_runs-2.ensures

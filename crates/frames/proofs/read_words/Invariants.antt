-- `frames::read_words` meets its contract: frame by frame two words are stored.
use mathlib.Core.Path.{◌≡◌}
use mathlib.Core.List.{List}
use Prim.Native.Nat.{ℕ, ◌+◌, ◌*◌, ◌≤◌, ◌<◌}
use lib.ListN.{length}
use lib.Ieee.{Float}
use Rattle.floats.specs.Whole.{float}
use Rattle.engine.specs.declared.Sides.{Sides}
use Rattle.engine.specs.Layout.{sides_at}
use Rattle.frames.specs.Column.{column_word}
use Rattle.frames.specs.Run.{pass_words}
use Rattle.frames.proofs.read_words.Given as goal

abbrev pub words_of : List ℕ → ℕ → ℕ → ℕ → Sides Float
words_of input size at k = record { first = float (column_word input size at k); second = float (column_word input size (at + 2) k) }

pub record Reading (input : List ℕ) (size at count : ℕ) (words : List Float) (k : ℕ) : Type 0 where
  pub most : k ≤ count
  pub words_size : length words ≡ pass_words
  pub done : (j : ℕ) → j < k → sides_at words (2 * j) ≡ words_of input size at j

abbrev pub invariant-loop-k : goal.invariant-loop-k
invariant-loop-k l = Reading l.input l.size l.at l.count l.words l.k

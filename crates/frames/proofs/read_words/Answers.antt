-- `frames::read_words` meets its contract: frame by frame two words are stored.
use mathlib.Core.Path.{◌≡◌, sym, ◌∙◌, subst}
use mathlib.Core.List.{List}
use Prim.Native.Nat.{ℕ, suc, ◌+◌, ◌*◌, ◌≤◌, ◌<◌}
use native.Mathlib.Numerals.{add-one}
use native.Mathlib.Omega.{arith}
use lib.ListN.{length}
use lib.Ieee.{Float}
use Rattle.engine.specs.declared.Sides.{Sides}
use Rattle.engine.proofs.Store.{sides-length}
use Rattle.frames.proofs.Words.{words_more}
use Rattle.frames.proofs.read_words.Goals.{After-loop-k, In-loop-k}
use Rattle.frames.proofs.read_words.Invariants.{words_of, Reading}
use Rattle.frames.proofs.read_words.Goals as goal

-- after k frames

pub loop-k-init : goal.loop-k-init
loop-k-init c = record { most = omega arith; words_size = c.requires.words_size; done = λ j h. absurd (omega arith) }

module _ (c : In-loop-k) where
  abbrev k : ℕ
  k = c.loop-k.k

  abbrev words : List Float
  words = c.loop-k.words

  inv : Reading c.args.input.now c.args.size c.args.at c.args.count words k
  inv = c.loop-k.invariant

  below : k < c.args.count
  below = c.loop-k-test.true

  -- the frame's samples stand in the input
  here : c.args.size * k + (c.args.at + 4) ≤ length c.args.input.now
  here = c.requires.has k below

pub overflow_add-second : goal.overflow_add-second
overflow_add-second c = omega (arith, here c)

pub overflow_mul-size : goal.overflow_mul-size
overflow_mul-size c = omega (arith, here c)

pub overflow_add-size : goal.overflow_add-size
overflow_add-size c = omega (arith, here c)

pub word-requires : goal.word-requires
word-requires c = omega (arith, here c)

pub overflow_mul-size-in-loop-k : goal.overflow_mul-size-in-loop-k
overflow_mul-size-in-loop-k c = omega (arith, here (goal.at.overflow_mul-size-in-loop-k c).In-loop-k)

pub overflow_add-size-in-loop-k : goal.overflow_add-size-in-loop-k
overflow_add-size-in-loop-k c = omega (arith, here (goal.at.overflow_add-size-in-loop-k c).In-loop-k)

pub word-requires-in-loop-k : goal.word-requires-in-loop-k
word-requires-in-loop-k c = omega (arith, here (goal.at.word-requires-in-loop-k c).In-loop-k)

pub overflow_mul-k : goal.overflow_mul-k
overflow_mul-k c = omega (arith, below n, n.requires.few)
  where
    n : In-loop-k
    n = (goal.at.overflow_mul-k c).In-loop-k

-- there is room for the words
room : (n : In-loop-k) → 2 * k n + 1 < length (words n)
room n = omega (arith, below n, n.requires.few, (inv n).words_size)

pub put_sides-requires : goal.put_sides-requires
put_sides-requires c = omega (arith, room (goal.at.put_sides-requires c).In-loop-k)

pub loop-k-preserved : goal.loop-k-preserved
loop-k-preserved c =
    subst (λ (j : ℕ). Reading n.args.input.now n.args.size n.args.at n.args.count c.put_sides.new.floats j) (sym (add-one (k n)))
    (subst (λ (w : List Float). Reading n.args.input.now n.args.size n.args.at n.args.count w (suc (k n))) (sym c.put_sides.ensures)
    (record {
      most = below n;
      words_size = sides-length (words n) (2 * k n) x ∙ (inv n).words_size;
      done = words_more (words n) (k n) x (words_of n.args.input.now n.args.size n.args.at) (room n) x-is (inv n).done;
    }))
  where
    n : In-loop-k
    n = (goal.at.loop-k-preserved c).In-loop-k

    x : Sides Float
    x = record { first = c.word.result; second = c.word-in-loop-k.result }

    x-is : x ≡ words_of n.args.input.now n.args.size n.args.at (k n)
    x-is = λ i. record { first = c.word.ensures i; second = c.word-in-loop-k.ensures i }

all : (c : After-loop-k) → c.loop-k.k ≡ c.args.count
all c = omega (arith, c.loop-k.invariant.most, c.loop-k-test.false)

pub shape_of-words : goal.shape_of-words
shape_of-words c = c.loop-k.invariant.words_size ∙ sym c.requires.words_size

pub returns : goal.returns
returns c =
    record {
      words_size = c.loop-k.invariant.words_size;
      words_are = λ j h. c.loop-k.invariant.done j (omega (arith, h, all c));
    }

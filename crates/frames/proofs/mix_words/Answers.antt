-- `frames::mix_words` meets its contract: a frame of the engine for each (proofs/Mixing.antt).
use mathlib.Core.Path.{◌≡◌, sym, ◌∙◌, subst}
use mathlib.Core.List.{List}
use Prim.Native.Nat.{ℕ, suc, ◌+◌, ◌*◌, ◌<◌}
use native.Mathlib.Numerals.{add-one}
use native.Mathlib.Omega.{arith}
use lib.ListN.{length}
use lib.Ieee.{Float}
use Rattle.engine.specs.declared.Sides.{Sides}
use Rattle.engine.specs.Layout.{sides_at}
use Rattle.engine.specs.Frame.{FrameAsks, FrameGives}
use Rattle.frames.proofs.Mixing.{Mixing, mixing_begins, frame_asks, room, mixing_next, mixing_ends}
use Rattle.frames.proofs.mix_words.Goals.{After-loop-k, After-sides_at-x, In-loop-k}
use Rattle.frames.proofs.mix_words.Goals as goal

pub loop-k-init : goal.loop-k-init
loop-k-init c = mixing_begins c.args.bands.now c.args.pair.now c.args.words.now c.args.count c.requires

module _ (c : In-loop-k) where
  abbrev bands : List Float
  bands = c.args.bands.now

  abbrev l : List Float
  l = c.args.pair.now

  abbrev words : List Float
  words = c.args.words.now

  abbrev k : ℕ
  k = c.loop-k.k

  abbrev m : List Float
  m = c.loop-k.pair

  abbrev w : List Float
  w = c.loop-k.words

  inv : Mixing bands l words c.args.count m w k
  inv = c.loop-k.invariant

  below : k < c.args.count
  below = c.loop-k-test.true

  has : 2 * k + 1 < length w
  has = room bands l words c.args.count c.requires m w k below inv

pub overflow_mul-k : goal.overflow_mul-k
overflow_mul-k c = omega (arith, below c, c.requires.few)

pub sides_at-x-requires : goal.sides_at-x-requires
sides_at-x-requires c = omega (arith, has c)

module _ (c : After-sides_at-x) where
  abbrev n : In-loop-k
  n = c.before

  x-is : c.sides_at-x.result ≡ sides_at (words n) (2 * k n)
  x-is = c.sides_at-x.ensures ∙ (inv n).ahead (k n) (omega arith)

pub frame-totals-requires : goal.frame-totals-requires
frame-totals-requires c =
    subst (λ (x : Sides Float). FrameAsks (bands (n e)) (m (n e)) x) (sym (x-is e)) (frame_asks (bands (n e)) (l (n e)) (words (n e)) (n e).args.count (n e).requires (m (n e)) (w (n e)) (k (n e)) (below (n e)) (inv (n e)))
  where
    e : After-sides_at-x
    e = c.before

pub overflow_mul-k-in-loop-k : goal.overflow_mul-k-in-loop-k
overflow_mul-k-in-loop-k c = omega (arith, below (goal.at.overflow_mul-k-in-loop-k c).In-loop-k, c.requires.few)

pub put_sides-requires : goal.put_sides-requires
put_sides-requires c = omega (arith, has (goal.at.put_sides-requires c).In-loop-k)

pub loop-k-preserved : goal.loop-k-preserved
loop-k-preserved c =
    subst (λ (j : ℕ). Mixing (bands i) (l i) (words i) i.args.count after c.put_sides.new.floats j) (sym (add-one (k i)))
    (subst (λ (z : List Float). Mixing (bands i) (l i) (words i) i.args.count after z (suc (k i))) (sym c.put_sides.ensures)
    (mixing_next (bands i) (l i) (words i) i.args.count i.requires (m i) (w i) (k i) (below i) (inv i) after c.frame-totals.result
    (subst (λ (x : Sides Float). FrameGives (bands i) (m i) x after c.frame-totals.result) (x-is e) c.frame-totals.ensures)))
  where
    i : In-loop-k
    i = (goal.at.loop-k-preserved c).In-loop-k

    e : After-sides_at-x
    e = (goal.at.loop-k-preserved c).After-sides_at-x

    after : List Float
    after = c.frame-totals.new.pair

all : (c : After-loop-k) → c.loop-k.k ≡ c.args.count
all c = omega (arith, c.loop-k.invariant.most, c.loop-k-test.false)

pub shape_of-pair : goal.shape_of-pair
shape_of-pair c = c.loop-k.invariant.size ∙ sym c.requires.pair_fit.size

pub shape_of-words : goal.shape_of-words
shape_of-words c = c.loop-k.invariant.words_size ∙ sym c.requires.words_size

pub returns : goal.returns
returns c =
    mixing_ends c.args.bands.now c.args.pair.now c.args.words.now c.args.count c.requires c.loop-k.pair c.loop-k.words
    (subst (λ (j : ℕ). Mixing c.args.bands.now c.args.pair.now c.args.words.now c.args.count c.loop-k.pair c.loop-k.words j) (all c) c.loop-k.invariant)

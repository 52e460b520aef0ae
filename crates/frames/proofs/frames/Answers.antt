-- `frames::frames` meets its contract: pair after pair (proofs/Pairs.antt).
use mathlib.Core.Path.{sym, ap, ◌∙◌, subst}
use mathlib.Core.List.{List}
use Prim.Native.Nat.{ℕ, ◌+◌, ◌-◌, ◌*◌, ◌≤◌, ◌<◌}
use native.Mathlib.Numerals.{add-one}
use native.Mathlib.Omega.{arith}
use lib.ListN.{length}
use lib.Ieee.{Float}
use borrow.Rule.Slice.PartMut.{put_mid}
use Rattle.engine.specs.Layout.{pair_floats}
use Rattle.frames.specs.Run.{FramesGives}
use Rattle.frames.proofs.Pairs.{Paired, paired_begins, sides-length, pair_asks, paired_next, paired_ends}
use Rattle.frames.proofs.Sound.{pairs_length}
use Rattle.frames.proofs.frames.Goals.{After-loop-p, In-loop-p}
use Rattle.frames.proofs.frames.Goals as goal

pub overflow_mul-size : goal.overflow_mul-size
overflow_mul-size c = omega (arith, c.requires.size)

pub overflow_mul-size-2 : goal.overflow_mul-size-2
overflow_mul-size-2 c = omega (arith, c.requires.size)

pub loop-p-init : goal.loop-p-init
loop-p-init c = paired_begins c.args.bands.now c.args.sides.now c.args.pairs c.args.volume c.args.count c.args.input.now c.args.output.now c.requires

module _ (c : In-loop-p) where
  abbrev p : ℕ
  p = c.loop-p.p

  abbrev sides : List Float
  sides = c.loop-p.sides

  abbrev out : List ℕ
  out = c.loop-p.output

  inv : Paired c.args.bands.now c.args.sides.now c.args.pairs c.args.volume c.args.count c.args.input.now c.args.output.now sides out c.loop-p.level p
  inv = c.loop-p.invariant

  below : p < c.args.pairs
  below = c.loop-p-test.true

  has : pair_floats * p + pair_floats ≤ length c.args.sides.now
  has = omega (arith, below, c.requires.size)

pub overflow_mul-from : goal.overflow_mul-from
overflow_mul-from c = omega (arith, has c)

pub overflow_add-to : goal.overflow_add-to
overflow_add-to c = omega (arith, has c)

pub offset_bounds-sides-from : goal.offset_bounds-sides-from
offset_bounds-sides-from c = omega (arith, has c)

pub slice_bounds-pair_frames-count : goal.slice_bounds-pair_frames-count
slice_bounds-pair_frames-count c = omega arith

pub slice_bounds-pair_frames-start : goal.slice_bounds-pair_frames-start
slice_bounds-pair_frames-start c = omega arith

pub slice_bounds-pair_frames-end : goal.slice_bounds-pair_frames-end
slice_bounds-pair_frames-end c = omega (arith, has c, sides-length c.args.bands.now c.args.sides.now c.args.pairs c.args.volume c.args.count c.args.input.now c.args.output.now c.requires (sides c) (out c) c.loop-p.level (p c) (below c) (inv c))

pub overflow_mul-p : goal.overflow_mul-p
overflow_mul-p c = omega (arith, has (goal.at.overflow_mul-p c).In-loop-p)

pub pair_frames-level-requires : goal.pair_frames-level-requires
pair_frames-level-requires c = pair_asks i.args.bands.now i.args.sides.now i.args.pairs i.args.volume i.args.count i.args.input.now i.args.output.now i.requires (sides i) (out i) i.loop-p.level (p i) (below i) (inv i)
  where
    i : In-loop-p
    i = (goal.at.pair_frames-level-requires c).In-loop-p

pub loop-p-preserved : goal.loop-p-preserved
loop-p-preserved c =
    subst (λ (j : ℕ). Paired i.args.bands.now i.args.sides.now i.args.pairs i.args.volume i.args.count i.args.input.now i.args.output.now (put_mid (pair_floats * p i) (pair_floats * p i + pair_floats - pair_floats * p i) (sides i) c.pair_frames-level.new.pair) c.pair_frames-level.new.output c.pair_frames-level.result j) (sym (add-one (p i)))
    (paired_next i.args.bands.now i.args.sides.now i.args.pairs i.args.volume i.args.count i.args.input.now i.args.output.now i.requires (sides i) (out i) i.loop-p.level (p i) (below i) (inv i) c.pair_frames-level.result c.pair_frames-level.new.pair c.pair_frames-level.new.output c.pair_frames-level.ensures)
  where
    i : In-loop-p
    i = (goal.at.loop-p-preserved c).In-loop-p

module _ (c : After-loop-p) where
  given : FramesGives c.args.bands.now c.args.sides.now c.args.pairs c.args.volume c.args.count c.args.input.now c.args.output.now c.loop-p.level c.loop-p.sides c.loop-p.output
  given =
      paired_ends c.args.bands.now c.args.sides.now c.args.pairs c.args.volume c.args.count c.args.input.now c.args.output.now c.requires c.loop-p.sides c.loop-p.output c.loop-p.level
      (subst (λ (j : ℕ). Paired c.args.bands.now c.args.sides.now c.args.pairs c.args.volume c.args.count c.args.input.now c.args.output.now c.loop-p.sides c.loop-p.output c.loop-p.level j) (omega (arith, c.loop-p.invariant.most, c.loop-p-test.false)) c.loop-p.invariant)

pub shape_of-sides : goal.shape_of-sides
shape_of-sides c = (given c).size ∙ sym c.requires.size

pub shape_of-output : goal.shape_of-output
shape_of-output c = ap length c.loop-p.invariant.bytes ∙ pairs_length _ _ _ _ _ _

pub returns : goal.returns
returns c = given c

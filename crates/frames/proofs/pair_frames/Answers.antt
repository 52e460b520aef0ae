-- `frames::pair_frames` meets its contract: passes one behind the other (proofs/Passing.antt).
use mathlib.Core.Path.{sym, ap, ◌∙◌, subst}
use mathlib.Core.List.{List}
use Prim.Native.Nat.{ℕ, ◌+◌, ◌-◌, ◌*◌, ◌≤◌, ◌<◌}
use native.Mathlib.Nat.{add_comm, min-le_left, min-le_right, le-min}
use native.Mathlib.Omega.{arith}
use lib.Dec.{lit≤}
use lib.ListN.{length}
use lib.Ieee.{Float}
use Rattle.engine.specs.declared.FloatLevel.{FloatLevel}
use Rattle.frames.specs.Run.{pass_frames}
use Rattle.frames.proofs.Column.{stored_length}
use Rattle.frames.proofs.Passing.{Passing, passing_begins, read_asks, mix_asks, put_asks, passing_next, passing_ends}
use Rattle.frames.proofs.pair_frames.Lts as lts
use Rattle.frames.proofs.pair_frames.Reads as reads
use Rattle.frames.proofs.pair_frames.Tie as tie
use Rattle.frames.proofs.pair_frames.Goals as goal

pub loop-done-init : goal.loop-done-init
loop-done-init c =
    passing_begins z.args.bands.now z.args.pair.now z.args.volume z.args.size z.args.at z.args.count z.args.input.now z.args.output.now z.requires _ (omega arith)
  where
    z : lts.Start tie.the-claims reads.Pre reads.Post goal.the-invariant-loop-done goal.the-decreases-loop-done
    z = c.before.before.before.before

-- ---- a pass

module _ (c : lts.In-loop tie.the-claims reads.Pre reads.Post goal.the-invariant-loop-done goal.the-decreases-loop-done) where
  abbrev s : lts.Start tie.the-claims reads.Pre reads.Post goal.the-invariant-loop-done goal.the-decreases-loop-done
  s = c.before.before.before.before.before

  abbrev bands : List Float
  bands = s.args.bands.now

  abbrev l : List Float
  l = s.args.pair.now

  abbrev input : List ℕ
  input = s.args.input.now

  abbrev room : List ℕ
  room = s.args.output.now

  abbrev done : ℕ
  done = c.loop-done.done

  abbrev m : List Float
  m = c.loop-done.pair

  abbrev out : List ℕ
  out = c.loop-done.output

  abbrev words : List Float
  words = c.loop-done.words

  abbrev level : FloatLevel
  level = c.loop-done.level

  inv : Passing bands l s.args.volume s.args.size s.args.at s.args.count input room m out words level done
  inv = c.loop-done.invariant

  below : done < s.args.count
  below = c.loop-done-test.true

  -- the next frame's samples stand in the input
  here : s.args.size * done + (s.args.at + 4) ≤ length input
  here = s.requires.input_has done below

pub overflow_sub-left : goal.overflow_sub-left
overflow_sub-left c = omega (arith, below c.before)

pub pass_frames-n-requires : goal.pass_frames-n-requires
pass_frames-n-requires c = tt

pub overflow_mul-from : goal.overflow_mul-from
overflow_mul-from c = omega (arith, here c.before.before)

pub overflow_add-from : goal.overflow_add-from
overflow_add-from c = omega (arith, here c.before.before)

module _ (c : lts.After-pass_frames tie.the-claims reads.Pre reads.Post goal.the-invariant-loop-done goal.the-decreases-loop-done) where
  abbrev i : lts.In-loop tie.the-claims reads.Pre reads.Post goal.the-invariant-loop-done goal.the-decreases-loop-done
  i = c.before

  abbrev n : ℕ
  n = c.pass_frames-n.result

  few : n ≤ pass_frames
  few = omega (arith, c.pass_frames-n.ensures, min-le_left pass_frames ((s i).args.count - done i))

  left : n + done i ≤ (s i).args.count
  left = omega (arith, c.pass_frames-n.ensures, min-le_right pass_frames ((s i).args.count - done i), below i)

  some : 1 ≤ n
  some = omega (arith, c.pass_frames-n.ensures, le-min {a = pass_frames} (lit≤ tt) one_left)
    where
      one_left : 1 ≤ (s i).args.count - done i
      one_left = omega (arith, below i)

pub slice_bounds-read_words-end : goal.slice_bounds-read_words-end
slice_bounds-read_words-end c = sym (inv c.before.before.before).words_size

pub read_words-requires : goal.read_words-requires
read_words-requires c = read_asks (bands j) (l j) (s j).args.volume (s j).args.size (s j).args.at (s j).args.count (input j) (room j) (s j).requires (m j) (out j) (words j) (level j) (done j) (inv j) (n c.before.before) (left c.before.before) (few c.before.before)
  where
    j : lts.In-loop tie.the-claims reads.Pre reads.Post goal.the-invariant-loop-done goal.the-decreases-loop-done
    j = c.before.before.before

module _ (c : lts.After-read_words tie.the-claims reads.Pre reads.Post goal.the-invariant-loop-done goal.the-decreases-loop-done) where
  abbrev p : lts.After-pass_frames tie.the-claims reads.Pre reads.Post goal.the-invariant-loop-done goal.the-decreases-loop-done
  p = c.before.before

  abbrev w : List Float
  w = c.read_words.new.words

pub slice_bounds-mix_words-end : goal.slice_bounds-mix_words-end
slice_bounds-mix_words-end c = sym c.read_words.ensures.words_size

pub mix_words-requires : goal.mix_words-requires
mix_words-requires c = mix_asks (bands j) (l j) (s j).args.volume (s j).args.size (s j).args.at (s j).args.count (input j) (room j) (s j).requires (m j) (out j) (words j) (level j) (done j) (inv j) (n (p r)) (left (p r)) (few (p r)) (w r) r.read_words.ensures
  where
    r : lts.After-read_words tie.the-claims reads.Pre reads.Post goal.the-invariant-loop-done goal.the-decreases-loop-done
    r = c.before.before.before.before

    j : lts.In-loop tie.the-claims reads.Pre reads.Post goal.the-invariant-loop-done goal.the-decreases-loop-done
    j = i (p r)

module _ (c : lts.After-mix_words tie.the-claims reads.Pre reads.Post goal.the-invariant-loop-done goal.the-decreases-loop-done) where
  abbrev r : lts.After-read_words tie.the-claims reads.Pre reads.Post goal.the-invariant-loop-done goal.the-decreases-loop-done
  r = c.before.before.before.before

  abbrev after : List Float
  after = c.mix_words.new.pair

  abbrev totals : List Float
  totals = c.mix_words.new.words

pub slice_bounds-put_sounds-end : goal.slice_bounds-put_sounds-end
slice_bounds-put_sounds-end c = sym c.mix_words.ensures.words_size

pub put_sounds-level-requires : goal.put_sounds-level-requires
put_sounds-level-requires c = put_asks (bands j) (l j) (s j).args.volume (s j).args.size (s j).args.at (s j).args.count (input j) (room j) (s j).requires (m j) (out j) (words j) (level j) (done j) (inv j) (n (p (r q))) (left (p (r q))) (few (p (r q))) (w (r q)) (r q).read_words.ensures (after q) (totals q) q.mix_words.ensures
  where
    q : lts.After-mix_words tie.the-claims reads.Pre reads.Post goal.the-invariant-loop-done goal.the-decreases-loop-done
    q = c.before.before.before.before.before.before

    j : lts.In-loop tie.the-claims reads.Pre reads.Post goal.the-invariant-loop-done goal.the-decreases-loop-done
    j = i (p (r q))

pub overflow_add-done : goal.overflow_add-done
overflow_add-done c = omega (arith, left c.before.before.before.before.before.before.before.before.before.before.before.before.before.before.before, below c.before.before.before.before.before.before.before.before.before.before.before.before.before.before.before.before)

pub loop-done-smaller : goal.loop-done-smaller
loop-done-smaller c = omega (arith, left c.before.before.before.before.before.before.before.before.before.before.before.before.before.before.before, some c.before.before.before.before.before.before.before.before.before.before.before.before.before.before.before)

pub loop-done-preserved : goal.loop-done-preserved
loop-done-preserved c =
    subst (λ (k : ℕ). Passing (bands j) (l j) (s j).args.volume (s j).args.size (s j).args.at (s j).args.count (input j) (room j) (after q) c.put_sounds-level.new.output (totals q) c.put_sounds-level.result k) (add_comm (n (p (r q))) (done j))
    (passing_next (bands j) (l j) (s j).args.volume (s j).args.size (s j).args.at (s j).args.count (input j) (room j) (s j).requires (m j) (out j) (words j) (level j) (done j) (inv j) (n (p (r q))) (left (p (r q))) (few (p (r q))) (w (r q)) (r q).read_words.ensures (after q) (totals q) q.mix_words.ensures c.put_sounds-level.result c.put_sounds-level.new.output c.put_sounds-level.ensures)
  where
    q : lts.After-mix_words tie.the-claims reads.Pre reads.Post goal.the-invariant-loop-done goal.the-decreases-loop-done
    q = c.before.before.before.before.before.before.before.before.before

    j : lts.In-loop tie.the-claims reads.Pre reads.Post goal.the-invariant-loop-done goal.the-decreases-loop-done
    j = i (p (r q))

-- ---- after the last pass

module _ (c : lts.After-loop tie.the-claims reads.Pre reads.Post goal.the-invariant-loop-done goal.the-decreases-loop-done) where
  abbrev e : lts.Start tie.the-claims reads.Pre reads.Post goal.the-invariant-loop-done goal.the-decreases-loop-done
  e = c.before.before.before.before.before

  last : Passing e.args.bands.now e.args.pair.now e.args.volume e.args.size e.args.at e.args.count e.args.input.now e.args.output.now c.loop-done.pair c.loop-done.output c.loop-done.words c.loop-done.level e.args.count
  last =
      subst (λ (k : ℕ). Passing e.args.bands.now e.args.pair.now e.args.volume e.args.size e.args.at e.args.count e.args.input.now e.args.output.now c.loop-done.pair c.loop-done.output c.loop-done.words c.loop-done.level k)
      (omega (arith, c.loop-done.invariant.most, c.loop-done-test.false)) c.loop-done.invariant

pub shape_of-pair : goal.shape_of-pair
shape_of-pair c = (last c.before).size_is ∙ sym (e c.before).requires.pair_fit.size

pub shape_of-output : goal.shape_of-output
shape_of-output c = ap length (last c.before).bytes ∙ stored_length _ _ _ _ _ _

pub returns : goal.returns
returns c =
    passing_ends (e c.before).args.bands.now (e c.before).args.pair.now (e c.before).args.volume (e c.before).args.size (e c.before).args.at (e c.before).args.count (e c.before).args.input.now (e c.before).args.output.now (e c.before).requires c.loop-done.pair c.loop-done.output c.loop-done.words c.loop-done.level (last c.before)

-- `frames::put_sounds` meets its contract: in each frame the volume moves, and two samples are stored.
use mathlib.Core.Path.{◌≡◌, refl, sym, ap, ap₂, ◌∙◌, subst}
use mathlib.Core.List.{List}
use Prim.Native.Nat.{ℕ, suc, ◌+◌, ◌*◌, ◌≤◌, ◌<◌}
use native.Mathlib.Numerals.{add-one}
use native.Mathlib.Omega.{arith}
use lib.Dec.{lit≤}
use lib.IntN.{ℤ}
use lib.ListN.{length}
use lib.Signed.{◌≤ℤ◌, le_z_yes}
use lib.Ieee.{Float}
use mir.Syntax.{w64}
use mir.Val.{to_z, of_z}
use mir.Facts.{to_z-of_z}
use Rattle.rounding.specs.Rounding.{nearest}
use Rattle.rounding.proofs.Limit.{limit-low, limit_high}
use Rattle.words.specs.Words.{word_size}
use Rattle.floats.specs.Whole.{float, whole_of}
use Rattle.levels.specs.declared.Level.{Level}
use Rattle.levels.specs.Levels.{volume_slope, moved}
use Rattle.unit.specs.Frame.{sample_low, sample_high, output}
use Rattle.unit.specs.Fit.{VolumeFit}
use Rattle.unit.proofs.Ranges.{volume_size}
use Rattle.engine.specs.declared.FloatLevel.{FloatLevel}
use Rattle.engine.specs.declared.Sides.{Sides}
use Rattle.engine.specs.Floats.{Carries, float_at, float_level, level_in}
use Rattle.engine.specs.Frame.{LevelCarries, OutputAsks, total_size}
use Rattle.engine.proofs.Carry.{carries, level_back, volume_moves}
use Rattle.frames.specs.Column.{volume_played, put_sample, columns_stored}
use Rattle.frames.specs.Run.{first_words, second_words, total_heard}
use Rattle.frames.proofs.Column.{volume_fit, sample_length, stored_length}
use Rattle.frames.proofs.put_sounds.Lts as lts
use Rattle.frames.proofs.put_sounds.Reads as reads
use Rattle.frames.proofs.put_sounds.Tie as tie
use Rattle.frames.proofs.put_sounds.Invariants.{Sounding}
use Rattle.frames.proofs.put_sounds.Goals as goal

-- after k frames

pub loop-k-init : goal.loop-k-init
unfolding volume_played columns_stored
loop-k-init c = record { most = omega arith; level_is = c.requires.volume_fit.whole; bytes = refl }

module _ (c : lts.In-loop tie.the-claims reads.Pre reads.Post goal.the-invariant-loop-k goal.the-decreases-loop-k) where
  abbrev s : lts.Start tie.the-claims reads.Pre reads.Post goal.the-invariant-loop-k goal.the-decreases-loop-k
  s = c.before.before.before.before

  abbrev totals : List Float
  totals = s.args.totals.now

  abbrev volume : Level
  volume = level_in s.args.volume

  abbrev size : ℕ
  size = s.args.size

  abbrev at : ℕ
  at = s.args.at

  abbrev k : ℕ
  k = c.loop-k.k

  abbrev out : List ℕ
  out = c.loop-k.output

  inv : Sounding totals s.args.volume s.args.output.now size at s.args.count out c.loop-k.level k
  inv = c.loop-k.invariant

  below : k < s.args.count
  below = c.loop-k-test.true

  here : size * k + (at + 4) ≤ length s.args.output.now
  here = s.requires.has k below

  fit : VolumeFit (volume_played volume k)
  fit = volume_fit volume k s.requires.volume_fit.fit

  next-fit : VolumeFit (volume_played volume (suc k))
  next-fit = volume_fit volume (suc k) s.requires.volume_fit.fit

  out-length : length out ≡ length s.args.output.now
  out-length = ap length inv.bytes ∙ stored_length size at (total_heard s.args.volume (first_words totals)) (total_heard s.args.volume (second_words totals)) s.args.output.now k

pub overflow_add-second : goal.overflow_add-second
overflow_add-second c = omega (arith, here c.before)

pub moved-level-requires : goal.moved-level-requires
moved-level-requires c = subst LevelCarries (sym (inv c.before).level_is) (volume_moves (volume_played (volume c.before) (k c.before)) (fit c.before))

-- ---- the volume has moved

module _ (c : lts.After-moved tie.the-claims reads.Pre reads.Post goal.the-invariant-loop-k goal.the-decreases-loop-k) where
  abbrev n : lts.In-loop tie.the-claims reads.Pre reads.Post goal.the-invariant-loop-k goal.the-decreases-loop-k
  n = c.before

  level-next : c.moved-level.result ≡ float_level (volume_played (volume n) (suc (k n)))
  unfolding volume_played
  level-next = c.moved-level.ensures ∙ ap (λ (v : Level). float_level (moved volume_slope v)) (ap level_in (inv n).level_is ∙ level_back (volume_played (volume n) (k n)) (fit n))

  present-is : c.moved-level.result.present ≡ float (volume_played (volume n) (suc (k n))).present
  present-is = ap (λ (v : FloatLevel). v.present) level-next

  present-carries : Carries c.moved-level.result.present word_size
  present-carries = carries c.moved-level.result.present (volume_played (volume n) (suc (k n))).present present-is (volume_size (volume_played (volume n) (suc (k n))).present (next-fit n).present) (lit≤ tt)

  present-whole : whole_of c.moved-level.result.present ≡ (volume_played (volume n) (suc (k n))).present
  present-whole = ap whole_of present-is ∙ ap (λ (v : Level). v.present) (level_back (volume_played (volume n) (suc (k n))) (next-fit n))

pub overflow_mul-k : goal.overflow_mul-k
overflow_mul-k c = omega (arith, below c.before.before, (s c.before.before).requires.few)

pub sides_at-total-requires : goal.sides_at-total-requires
sides_at-total-requires c = omega (arith, below c.before.before, (s c.before.before).requires.few, (s c.before.before).requires.words_size)

pub overflow_mul-size : goal.overflow_mul-size
overflow_mul-size c = omega (arith, here c.before.before.before.before)

pub overflow_add-size : goal.overflow_add-size
overflow_add-size c = omega (arith, here c.before.before.before.before)

-- what the output asks, of one side's total
output-asks : (c : lts.After-sides_at tie.the-claims reads.Pre reads.Post goal.the-invariant-loop-k goal.the-decreases-loop-k) (t : Float) → Carries t total_size → (u : Float) → u ≡ t → OutputAsks c.moved-level.result.present u
output-asks c t h u e = record { volume_carries = present-carries c.before; total_carries = subst (λ (x : Float). Carries x total_size) (sym e) h }

pub output-requires : goal.output-requires
output-requires c =
    output-asks c.before.before (float_at (totals i) (2 * k i)) ((s i).requires.first_totals (k i) (below i)) c.sides_at-total.result.first (ap (λ (x : Sides Float). x.first) c.sides_at-total.ensures)
  where
    i : lts.In-loop tie.the-claims reads.Pre reads.Post goal.the-invariant-loop-k goal.the-decreases-loop-k
    i = c.before.before.before.before

-- an output is a sample
module _ (volume m : ℤ) where
  output-low : sample_low ≤ℤ output volume m
  unfolding output
  output-low = limit-low sample_low sample_high (le_z_yes tt) _

  output-high : output volume m ≤ℤ sample_high
  unfolding output
  output-high = limit_high sample_low sample_high (le_z_yes tt) _

module _ (c : lts.After-output tie.the-claims reads.Pre reads.Post goal.the-invariant-loop-k goal.the-decreases-loop-k) where
  abbrev m1 : lts.After-moved tie.the-claims reads.Pre reads.Post goal.the-invariant-loop-k goal.the-decreases-loop-k
  m1 = c.before.before.before

  abbrev i1 : lts.In-loop tie.the-claims reads.Pre reads.Post goal.the-invariant-loop-k goal.the-decreases-loop-k
  i1 = c.before.before.before.before

  first-is : to_z w64 (of_z w64 c.output.result) ≡ total_heard (s i1).args.volume (first_words (totals i1)) (k i1)
  first-is =
      to_z-of_z {w = w64} (record { sfits = c.output.type_inv })
      ∙ c.output.ensures
      ∙ (λ i. output (present-whole m1 i) (nearest (whole_of (c.sides_at-total.ensures i).first) 23))

pub put_sample-requires : goal.put_sample-requires
put_sample-requires c = (
  omega (arith, here (i1 c.before), out-length (i1 c.before)),
  subst (λ (z : ℤ). sample_low ≤ℤ z) (sym (first-is c.before)) (output-low _ _),
  subst (λ (z : ℤ). z ≤ℤ sample_high) (sym (first-is c.before)) (output-high _ _),
)

-- ---- the first sample is stored

module _ (c : lts.After-put_sample tie.the-claims reads.Pre reads.Post goal.the-invariant-loop-k goal.the-decreases-loop-k) where
  abbrev o1 : lts.After-output tie.the-claims reads.Pre reads.Post goal.the-invariant-loop-k goal.the-decreases-loop-k
  o1 = c.before

  half_is : c.put_sample.new.output ≡ put_sample (out (i1 o1)) (size (i1 o1) * k (i1 o1) + at (i1 o1)) (total_heard (s (i1 o1)).args.volume (first_words (totals (i1 o1))) (k (i1 o1)))
  half_is = c.put_sample.ensures ∙ ap (put_sample (out (i1 o1)) (size (i1 o1) * k (i1 o1) + at (i1 o1))) (first-is o1)

  half_length : length c.put_sample.new.output ≡ length (s (i1 o1)).args.output.now
  half_length = ap length half_is ∙ sample_length (out (i1 o1)) (size (i1 o1) * k (i1 o1) + at (i1 o1)) _ ∙ out-length (i1 o1)

pub overflow_mul-size-in-loop-k : goal.overflow_mul-size-in-loop-k
overflow_mul-size-in-loop-k c = omega (arith, here c.before.before.before.before.before.before.before.before.before)

pub overflow_add-size-in-loop-k : goal.overflow_add-size-in-loop-k
overflow_add-size-in-loop-k c = omega (arith, here c.before.before.before.before.before.before.before.before.before)

pub output-requires-in-loop-k : goal.output-requires-in-loop-k
output-requires-in-loop-k c =
    output-asks c.before.before.before.before.before.before.before (float_at (totals i) (2 * k i + 1)) ((s i).requires.second_totals (k i) (below i)) c.sides_at-total.result.second (ap (λ (x : Sides Float). x.second) c.sides_at-total.ensures)
  where
    i : lts.In-loop tie.the-claims reads.Pre reads.Post goal.the-invariant-loop-k goal.the-decreases-loop-k
    i = c.before.before.before.before.before.before.before.before.before

module _ (c : lts.After-output3 tie.the-claims reads.Pre reads.Post goal.the-invariant-loop-k goal.the-decreases-loop-k) where
  abbrev i2 : lts.In-loop tie.the-claims reads.Pre reads.Post goal.the-invariant-loop-k goal.the-decreases-loop-k
  i2 = c.before.before.before.before.before.before.before.before.before

  second_is : to_z w64 (of_z w64 c.output-in-loop-k.result) ≡ total_heard (s i2).args.volume (second_words (totals i2)) (k i2)
  second_is =
      to_z-of_z {w = w64} (record { sfits = c.output-in-loop-k.type_inv })
      ∙ c.output-in-loop-k.ensures
      ∙ (λ i. output (present-whole c.before.before.before.before.before.before.before.before i) (nearest (whole_of (c.sides_at-total.ensures i).second) 23))

pub put_sample-requires-in-loop-k : goal.put_sample-requires-in-loop-k
put_sample-requires-in-loop-k c = (
  omega (arith, here (i2 c.before), half_length c.before.before.before.before.before),
  subst (λ (z : ℤ). sample_low ≤ℤ z) (sym (second_is c.before)) (output-low _ _),
  subst (λ (z : ℤ). z ≤ℤ sample_high) (sym (second_is c.before)) (output-high _ _),
)

pub loop-k-preserved : goal.loop-k-preserved
unfolding columns_stored
loop-k-preserved c =
    subst (λ (j : ℕ). Sounding (totals i) (s i).args.volume (s i).args.output.now (size i) (at i) (s i).args.count c.put_sample-in-loop-k.new.output c.moved-level.result j) (sym (add-one (k i)))
    (record {
      most = below i;
      level_is = level-next c.before.before.before.before.before.before.before.before.before.before.before.before;
      bytes =
          c.put_sample-in-loop-k.ensures
          ∙ ap₂ (λ (l : List ℕ) (z : ℤ). put_sample l (size i * k i + (at i + 2)) z)
          (half_is c.before.before.before.before.before.before.before.before ∙ ap (λ (l : List ℕ). put_sample l (size i * k i + at i) (total_heard (s i).args.volume (first_words (totals i)) (k i))) (inv i).bytes)
          (second_is c.before.before.before.before);
    })
  where
    i : lts.In-loop tie.the-claims reads.Pre reads.Post goal.the-invariant-loop-k goal.the-decreases-loop-k
    i = c.before.before.before.before.before.before.before.before.before.before.before.before.before

all : (c : lts.After-loop tie.the-claims reads.Pre reads.Post goal.the-invariant-loop-k goal.the-decreases-loop-k) → c.loop-k.k ≡ c.args.count
all c = omega (arith, c.loop-k.invariant.most, c.loop-k-test.false)

pub shape_of-output : goal.shape_of-output
shape_of-output c = ap length c.loop-k.invariant.bytes ∙ stored_length _ _ _ _ _ _

pub returns : goal.returns
returns c =
    record {
      volume_is = c.loop-k.invariant.level_is ∙ ap (λ (j : ℕ). float_level (volume_played (level_in z.args.volume) j)) (all c.before);
      bytes = c.loop-k.invariant.bytes ∙ ap (columns_stored z.args.size z.args.at (total_heard z.args.volume (first_words z.args.totals.now)) (total_heard z.args.volume (second_words z.args.totals.now)) z.args.output.now) (all c.before);
    }
  where
    z : lts.Start tie.the-claims reads.Pre reads.Post goal.the-invariant-loop-k goal.the-decreases-loop-k
    z = c.before.before.before.before.before

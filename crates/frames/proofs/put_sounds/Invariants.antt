-- `frames::put_sounds` meets its contract: in each frame the volume moves, and two samples are stored.
use mathlib.Core.Path.{◌≡◌}
use mathlib.Core.List.{List}
use Prim.Native.Nat.{ℕ, ◌≤◌}
use lib.Ieee.{Float}
use Rattle.engine.specs.declared.FloatLevel.{FloatLevel}
use Rattle.engine.specs.Floats.{float_level, level_in}
use Rattle.frames.specs.Column.{volume_played, columns_stored}
use Rattle.frames.specs.Run.{first_words, second_words, total_heard}
use Rattle.frames.proofs.put_sounds.Given as goal

pub record Sounding (totals : List Float) (volume : FloatLevel) (room : List ℕ) (size at count : ℕ) (out : List ℕ) (level : FloatLevel) (k : ℕ) : Type 0 where
  pub most : k ≤ count
  pub level_is : level ≡ float_level (volume_played (level_in volume) k)
  pub bytes : out ≡ columns_stored size at (total_heard volume (first_words totals)) (total_heard volume (second_words totals)) room k

abbrev pub invariant-loop-k : goal.invariant-loop-k
invariant-loop-k l = Sounding l.totals l.initial.level l.initial.output l.size l.at l.count l.output l.level l.k

-- `numbers::unit_of` meets its contract, part by part.
use mathlib.Core.Path.{◌≡◌, ap, ◌∙◌}
use mathlib.Core.List.{List, [], ◌∷◌}
use Prim.Native.Nat.{ℕ, ◌-◌}
use native.Mathlib.Omega.{arith}
use lib.IntN.{ℤ}
use lib.ListN.{length, take, drop, length-drop}
use lib.Seq.{take_all}
use Rattle.unit.specs.Cleared.{bands_of}
use Rattle.numbers.specs.Layout.{bands_place, left_place, right_place, channel_of, unit_of}
use Rattle.numbers.proofs.unit_of.Goals as goal

-- all numbers from a place on
from : (l : List ℤ) (place : ℕ) → take (length l - place) (drop place l) ≡ drop place l
from l place = take_all (length l - place) (drop place l) (simp length-drop (omega arith))

pub returns : goal.returns
unfolding unit_of
returns c =
    λ i.
    record {
      volume = record { present = c.volume_of.ensures.0 i; target = c.volume_of.ensures.1 i };
      bands = (c.bands_of.ensures ∙ ap bands_of (from l bands_place)) i;
      channels = (c.channel_of-left.ensures ∙ ap channel_of (from l left_place)) i ∷ (c.channel_of-right.ensures ∙ ap channel_of (from l right_place)) i ∷ [];
    }
  where
    l : List ℤ
    l = c.args.numbers.now

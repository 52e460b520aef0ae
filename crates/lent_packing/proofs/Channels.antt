-- The two channels of a pair and of lent numbers, number by number: alike where their runs are.
use mathlib.Core.Path.{◌≡◌, refl, sym, ap, ◌∙◌}
use mathlib.Core.List.{List}
use Prim.Native.Nat.{ℕ, ◌+◌, ◌*◌, ◌<◌}
use native.Mathlib.Omega.{arith}
use lib.Dec.{lit≤}
use lib.IntN.{ℤ, pos}
use lib.ListN.{length, drop}
use lib.Seq.{get_or-drop}
use lib.Ieee.{Float}
use Rattle.lists.proofs.Tabulate.{tabulate_cong}
use Rattle.bands.specs.Bands.{band_count}
use Rattle.floats.specs.Whole.{whole_of}
use Rattle.engine.specs.Floats.{float_at}
use Rattle.engine.specs.Layout.{section_floats, x1_place, pair_floats, Side, first_side, second_side, section_at_side, channel_at_side}
use Rattle.packing.specs.Packing.{PairFloatsGives}
use Rattle.numbers.specs.Layout.{head_size, section_size, left_place, right_place, place, section_at, channel_of}
use Rattle.lent_packing.specs.Runs.{number_at, PutRunsGives, TakeRunsGives}

-- number i of a run stands at place j of the floats
abbrev Stands : List Float → List ℤ → ℕ → ℕ → Type 0
Stands l numbers j i = whole_of (float_at l j) ≡ number_at numbers i

-- the runs of both channels stand in the pair
pub record Alike (l : List Float) (numbers : List ℤ) : Type 0 where
  pub first_head : (i : ℕ) → i < head_size → Stands l numbers (x1_place + 2 * i) (left_place + i)
  pub second_head : (i : ℕ) → i < head_size → Stands l numbers (x1_place + 2 * i + 1) (right_place + i)
  pub first_sections : (i : ℕ) → i < section_size * band_count → Stands l numbers (0 + 2 * i) (left_place + head_size + i)
  pub second_sections : (i : ℕ) → i < section_size * band_count → Stands l numbers (0 + 2 * i + 1) (right_place + head_size + i)

-- one channel, whose numbers begin at start and whose floats stand on side o
module _ (l : List Float) (numbers : List ℤ) (e : Side) (start o : ℕ) where
  abbrev mine : List ℤ
  mine = drop start numbers

  from : {x : ℤ} (i n : ℕ) → x ≡ number_at numbers n → n ≡ start + i → x ≡ number_at mine i
  from i n s h = s ∙ ap (number_at numbers) h ∙ sym (get_or-drop start numbers i (pos 0))

  module _ (places : (b : ℕ) → e.section b ≡ section_floats * b + o) (sections : (i j : ℕ) → j ≡ 2 * i + o → i < section_size * band_count → Stands l numbers j (start + head_size + i)) where
    section_same : (b : ℕ) → b < band_count → section_at_side l e b ≡ section_at mine b
    section_same b h =
        λ i.
        record {
          y1 = at 0 (e.section b) (place b) (omega arith) (omega (arith, places b)) (omega arith) i;
          y2 = at 1 (e.section b + 2) (place b + 1) (omega arith) (omega (arith, places b)) (omega arith) i;
          gain =
              record {
                present = at 2 (e.section b + 4) (place b + 2) (omega arith) (omega (arith, places b)) (omega arith) i;
                target = at 3 (e.section b + 6) (place b + 3) (omega arith) (omega (arith, places b)) (omega arith) i;
              };
          remainder = at 4 (e.section b + 8) (place b + 4) (omega arith) (omega (arith, places b)) (omega arith) i;
        }
      where
        at : (r j n : ℕ) → r < section_size → j ≡ 2 * (section_size * b + r) + o → n ≡ section_size * b + r + head_size → whole_of (float_at l j) ≡ number_at mine n
        at r j n g p q = from n (start + head_size + (section_size * b + r)) (sections (section_size * b + r) j p (omega arith)) (omega arith)

    channel_same : Stands l numbers e.x1 (start + 0) → Stands l numbers e.x2 (start + 1) → Stands l numbers e.flag (start + 2) → channel_at_side l e ≡ channel_of mine
    channel_same x1 x2 flag =
        λ i.
        record {
          x1 = from 0 (start + 0) x1 refl i;
          x2 = from 1 (start + 1) x2 refl i;
          flag = from 2 (start + 2) flag refl i;
          sections = tabulate_cong band_count section_same i;
        }

module _ (l : List Float) (numbers : List ℤ) (a : Alike l numbers) where
  pub first_same : channel_at_side l first_side ≡ channel_of (drop left_place numbers)
  first_same =
      channel_same l numbers first_side left_place 0 (λ b. omega arith)
      (λ i j e h. ap (λ (k : ℕ). whole_of (float_at l k)) (omega arith) ∙ a.first_sections i h)
      (a.first_head 0 (lit≤ tt)) (a.first_head 1 (lit≤ tt)) (a.first_head 2 (lit≤ tt))

  pub second_same : channel_at_side l second_side ≡ channel_of (drop right_place numbers)
  second_same =
      channel_same l numbers second_side right_place 1 (λ b. refl)
      (λ i j e h. ap (λ (k : ℕ). whole_of (float_at l k)) (omega arith) ∙ a.second_sections i h)
      (a.second_head 0 (lit≤ tt)) (a.second_head 1 (lit≤ tt)) (a.second_head 2 (lit≤ tt))

-- ---- the runs stored, in either direction

pub channels_given : (numbers : List ℤ) (zeros l after : List Float) → length zeros ≡ pair_floats → PutRunsGives 0 (left_place + head_size) (right_place + head_size) (section_size * band_count) zeros numbers l → PutRunsGives x1_place left_place right_place head_size l numbers after → PairFloatsGives (channel_of (drop left_place numbers)) (channel_of (drop right_place numbers)) after
channels_given numbers zeros l after size g h =
    record {
      size = h.size ∙ g.size ∙ size;
      whole = h.whole;
      first = first_same after numbers alike;
      second = second_same after numbers alike;
    }
  where
    alike : Alike after numbers
    alike =
        record {
          first_head = h.firsts;
          second_head = h.seconds;
          first_sections = λ i e. ap whole_of (h.outside (0 + 2 * i) (λ u v. omega arith)) ∙ g.firsts i e;
          second_sections = λ i e. ap whole_of (h.outside (0 + 2 * i + 1) (λ u v. omega arith)) ∙ g.seconds i e;
        }

module _ (pair : List Float) (numbers between after : List ℤ) (g : TakeRunsGives 0 (left_place + head_size) (right_place + head_size) (section_size * band_count) numbers pair between) (h : TakeRunsGives x1_place left_place right_place head_size between pair after) where
  pub stored_alike : Alike pair after
  stored_alike =
      record {
        first_head = λ i e. sym (h.firsts i e);
        second_head = λ i e. sym (h.seconds i e);
        first_sections = λ i e. sym (h.outside (left_place + head_size + i) (λ u v. omega arith) (λ u v. omega arith) ∙ g.firsts i e);
        second_sections = λ i e. sym (h.outside (right_place + head_size + i) (λ u v. omega arith) (λ u v. omega arith) ∙ g.seconds i e);
      }

  -- what stands ahead of the channels is as it was
  pub stored_ahead : (j : ℕ) → j < left_place → number_at after j ≡ number_at numbers j
  stored_ahead j e =
      h.outside j (λ u v. omega arith) (λ u v. omega arith) ∙ g.outside j (λ u v. omega arith) (λ u v. omega arith)

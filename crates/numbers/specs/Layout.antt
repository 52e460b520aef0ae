-- The unit as flat numbers, in the order of docs/SPECIFICATION.md, The C library. Definitions only.
use Rattle.std.specs.Prelude.{◌≡◌, cond, List, [], ◌∷◌, ◌++◌, ℕ, ◌+◌, ◌*◌, ◌≤◌, ℤ, pos, length, get_or, take, drop}
use Rattle.lists.specs.Lists.{tabulate, joined}
use Rattle.refusals.specs.Numbers.{is_accepted, Verdict}
use Rattle.bands.specs.Bands.{band_count, set_size}
use Rattle.bands.specs.declared.Band.{Band}
use Rattle.levels.specs.declared.Level.{Level}
use Rattle.unit.specs.declared.BandSection.{BandSection}
use Rattle.unit.specs.declared.Channel.{Channel}
use Rattle.unit.specs.declared.Unit.{Unit}
use Rattle.unit.specs.Cleared.{bands_of}

-- "x1, x2, flag"
abbrev pub head_size : ℕ
head_size = 3

-- "y1, y2, gain, target, remainder of each section"
abbrev pub section_size : ℕ
section_size = 5

-- how many numbers a channel has
abbrev pub channel_size : ℕ
channel_size = head_size + section_size * band_count

-- where the numbers of the bands, of the left channel and of the right channel begin, behind the volume and its target
abbrev pub bands_place : ℕ
bands_place = 2

abbrev pub left_place : ℕ
left_place = bands_place + set_size

abbrev pub right_place : ℕ
right_place = left_place + channel_size

-- how many numbers a unit has
abbrev pub unit_size : ℕ
unit_size = right_place + channel_size

-- ---- a unit's numbers

-- "the volume, its target"
abbrev pub volume_numbers : Level → List ℤ
volume_numbers v = v.present ∷ v.target ∷ []

-- "A, B, G of each band"
abbrev pub band_numbers : Band → List ℤ
band_numbers band = band.alpha ∷ band.beta ∷ band.gamma ∷ []

-- "y1, y2, gain, target, remainder of each section"
abbrev pub section_numbers : BandSection → List ℤ
section_numbers s = s.y1 ∷ s.y2 ∷ s.gain.present ∷ s.gain.target ∷ s.remainder ∷ []

-- "x1, x2, flag"
abbrev pub head_numbers : Channel → List ℤ
head_numbers c = c.x1 ∷ c.x2 ∷ c.flag ∷ []

-- "x1, x2, flag, then y1, y2, gain, target, remainder of each section"
abbrev pub channel_numbers : Channel → List ℤ
channel_numbers c = c.x1 ∷ c.x2 ∷ c.flag ∷ joined section_numbers c.sections

unfoldable pub numbers_of : Unit → List ℤ
numbers_of u = volume_numbers u.volume ++ (joined band_numbers u.bands ++ joined channel_numbers u.channels)

-- ---- what the numbers stand for

-- the place of section b's y1 among a channel's numbers; y2, gain, target and remainder follow
abbrev pub place : ℕ → ℕ
place b = section_size * b + head_size

-- section b of a channel's numbers
abbrev pub section_at : List ℤ → ℕ → BandSection
section_at l b =
    record {
      y1 = get_or l (place b) (pos 0);
      y2 = get_or l (place b + 1) (pos 0);
      gain = record { present = get_or l (place b + 2) (pos 0); target = get_or l (place b + 3) (pos 0) };
      remainder = get_or l (place b + 4) (pos 0);
    }

-- the channel that they stand for
abbrev pub channel_of : List ℤ → Channel
channel_of l =
    record {
      x1 = get_or l 0 (pos 0);
      x2 = get_or l 1 (pos 0);
      flag = get_or l 2 (pos 0);
      sections = tabulate band_count (section_at l);
    }

-- the unit that 138 numbers stand for
unfoldable pub unit_of : List ℤ → Unit
unit_of l =
    record {
      volume = record { present = get_or l 0 (pos 0); target = get_or l 1 (pos 0) };
      bands = bands_of (drop bands_place l);
      channels = channel_of (drop left_place l) ∷ channel_of (drop right_place l) ∷ [];
    }

-- ---- a call on lent numbers

-- the numbers after it: refused, those lent
abbrev pub numbers_after : List ℤ → Verdict → Unit → List ℤ
numbers_after l verdict u = cond (is_accepted verdict) (numbers_of u) l

-- ---- storing a unit's numbers from the front

-- after the store, what stands before place `to` is what stood before place `from`, and then the new numbers; what stands behind is as it
-- was
pub record PutGives (l : List ℤ) (from : ℕ) (new : List ℤ) (to : ℕ) (after : List ℤ) : Type 0 where
  pub size : length after ≡ unit_size
  pub onward : from ≤ to
  pub front : take to after ≡ take from l ++ new
  pub behind : drop to after ≡ drop to l

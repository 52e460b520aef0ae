-- The laws of a unit of ten bands and two channels of ten sections: it has 138 numbers, and is the unit that they stand for.
use mathlib.Core.Path.{◌≡◌, refl, sym, ap, ap₂, ◌∙◌}
use mathlib.Core.List.{List, [], ◌∷◌, ◌++◌, append-nil}
use Prim.Native.Nat.{ℕ, zero, suc, ◌+◌, ◌*◌, ◌≤◌, ◌<◌}
use native.Mathlib.Omega.{arith}
use lib.IntN.{ℤ, pos}
use lib.ListN.{length, get_or, drop, length-append}
use lib.Seq.{drop_at, drop-drop}
use Rattle.lists.specs.Lists.{Each, joined}
use Rattle.lists.proofs.Tabulate.{tabulate_is}
use Rattle.bands.specs.Bands.{band_count, set_size}
use Rattle.bands.specs.declared.Band.{Band}
use Rattle.unit.specs.Sizes.{channel_count}
use Rattle.unit.specs.declared.BandSection.{BandSection}
use Rattle.unit.specs.declared.Channel.{Channel}
use Rattle.unit.specs.declared.Unit.{Unit}
use Rattle.unit.specs.Cleared.{bands_of, cleared_band_section}
use Rattle.unit.specs.Shaped.{TenSections, Shaped}
use Rattle.unit.proofs.Sets.{set_bands}
use Rattle.numbers.specs.Layout.{head_size, section_size, channel_size, unit_size, band_numbers, section_numbers, channel_numbers, numbers_of, place, section_at, channel_of, unit_of}

-- ---- how many numbers

bands_length : (bands : List Band) → length (joined band_numbers bands) ≡ 3 * length bands
bands_length [] = refl
bands_length (b ∷ bands) = omega (arith, bands_length bands)

sections_length : (sections : List BandSection) → length (joined section_numbers sections) ≡ section_size * length sections
sections_length [] = refl
sections_length (s ∷ sections) = omega (arith, sections_length sections)

channel_length : (c : Channel) → TenSections c → length (channel_numbers c) ≡ channel_size
channel_length c h = omega (arith, sections_length c.sections)

channels_length : (cs : List Channel) → length cs ≡ 2 → Each TenSections cs → length (joined channel_numbers cs) ≡ 2 * channel_size
channels_length [] e h = absurd (omega arith)
channels_length (a ∷ []) e h = absurd (omega arith)
channels_length (a ∷ b ∷ []) e h =
    length-append (channel_numbers a) (channel_numbers b ++ [])
    ∙ ap₂ ◌+◌ (channel_length a h.0) (ap length (append-nil (channel_numbers b)) ∙ channel_length b h.1.0)
channels_length (a ∷ b ∷ c ∷ cs) e h = absurd (omega arith)

pub numbers_length : (u : Unit) → Shaped channel_count u → length (numbers_of u) ≡ unit_size
unfolding numbers_of
numbers_length u s =
    omega (
      arith,
      length-append (joined band_numbers u.bands) (joined channel_numbers u.channels),
      bands_length u.bands,
      s.bands,
      channels_length u.channels s.channels s.sections,
    )

-- numbers stand for a unit of this shape
pub unit_shaped : (l : List ℤ) → Shaped channel_count (unit_of l)
unfolding unit_of
unit_shaped l = record { bands = refl; channels = refl; sections = (refl, (refl, tt)) }

-- ---- a section, behind the three numbers that are ahead of the sections

module _ (x1 x2 flag : ℤ) where
  -- behind the numbers of one section
  past_section : (s : BandSection) (m : List ℤ) (i j : ℕ) → i ≡ j + section_size → head_size ≤ j → get_or (x1 ∷ x2 ∷ flag ∷ (section_numbers s ++ m)) i (pos 0) ≡ get_or (x1 ∷ x2 ∷ flag ∷ m) j (pos 0)
  past_section s m i zero e h = absurd (omega arith)
  past_section s m i (suc zero) e h = absurd (omega arith)
  past_section s m i (suc (suc zero)) e h = absurd (omega arith)
  past_section s m i (suc (suc (suc j))) e h = ap (λ (n : ℕ). get_or (x1 ∷ x2 ∷ flag ∷ (section_numbers s ++ m)) n (pos 0)) eight
    where
      eight : i ≡ suc (suc (suc (suc (suc (suc (suc (suc j)))))))
      eight = omega arith

  section_of : (sections : List BandSection) (m : List ℤ) (k : ℕ) → k < length sections → section_at (x1 ∷ x2 ∷ flag ∷ (joined section_numbers sections ++ m)) k ≡ get_or sections k cleared_band_section
  section_of [] m k h = absurd (omega arith)
  section_of (s ∷ sections) m zero h = refl
  section_of (s ∷ sections) m (suc k) h = next ∙ section_of sections m k (omega arith)
    where
      past : (i j : ℕ) → i ≡ j + section_size → head_size ≤ j → get_or (x1 ∷ x2 ∷ flag ∷ (joined section_numbers (s ∷ sections) ++ m)) i (pos 0) ≡ get_or (x1 ∷ x2 ∷ flag ∷ (joined section_numbers sections ++ m)) j (pos 0)
      past i j e h = past_section s (joined section_numbers sections ++ m) i j e h

      next : section_at (x1 ∷ x2 ∷ flag ∷ (joined section_numbers (s ∷ sections) ++ m)) (suc k) ≡ section_at (x1 ∷ x2 ∷ flag ∷ (joined section_numbers sections ++ m)) k
      next =
          λ i.
          record {
            y1 = past (place (suc k)) (place k) (omega arith) (omega arith) i;
            y2 = past (place (suc k) + 1) (place k + 1) (omega arith) (omega arith) i;
            gain =
                record {
                  present = past (place (suc k) + 2) (place k + 2) (omega arith) (omega arith) i;
                  target = past (place (suc k) + 3) (place k + 3) (omega arith) (omega arith) i;
                };
            remainder = past (place (suc k) + 4) (place k + 4) (omega arith) (omega arith) i;
          }

-- a channel's numbers stand for it, whatever follows them
channel_of_lem : (c : Channel) (m : List ℤ) → TenSections c → channel_of (channel_numbers c ++ m) ≡ c
channel_of_lem c m e =
    λ i.
    record {
      x1 = c.x1;
      x2 = c.x2;
      flag = c.flag;
      sections =
          tabulate_is c.sections cleared_band_section band_count (section_at (channel_numbers c ++ m)) e
          (λ k h. section_of c.x1 c.x2 c.flag c.sections m k (omega arith)) i;
    }

channels_of : (cs : List Channel) → length cs ≡ 2 → Each TenSections cs → channel_of (joined channel_numbers cs) ∷ channel_of (drop channel_size (joined channel_numbers cs)) ∷ [] ≡ cs
channels_of [] e h = absurd (omega arith)
channels_of (a ∷ []) e h = absurd (omega arith)
channels_of (a ∷ b ∷ []) e h = λ i. channel_of_lem a (channel_numbers b ++ []) h.0 i ∷ second i ∷ []
  where
    second : channel_of (drop channel_size (channel_numbers a ++ (channel_numbers b ++ []))) ≡ b
    second =
        ap channel_of (drop_at (channel_numbers a) (channel_numbers b ++ []) channel_size (channel_length a h.0))
        ∙ channel_of_lem b [] h.1.0
channels_of (a ∷ b ∷ c ∷ cs) e h = absurd (omega arith)

-- ---- the unit

module _ (u : Unit) (s : Shaped channel_count u) where
  -- the numbers of its bands, and those of its channels
  abbrev first : List ℤ
  first = joined band_numbers u.bands

  abbrev second : List ℤ
  second = joined channel_numbers u.channels

  bands_of_lem : bands_of (first ++ second) ≡ u.bands
  bands_of_lem = set_bands u.bands second s.bands

  behind_bands : drop set_size (first ++ second) ≡ second
  behind_bands = drop_at first second set_size (omega (arith, bands_length u.bands, s.bands))

  behind_left : drop (channel_size + set_size) (first ++ second) ≡ drop channel_size second
  behind_left = sym (drop-drop channel_size set_size (first ++ second)) ∙ ap (drop channel_size) behind_bands

  pub unit_of_numbers : unit_of (numbers_of u) ≡ u
  unfolding numbers_of unit_of
  unit_of_numbers =
      λ i.
      record {
        volume = u.volume;
        bands = bands_of_lem i;
        channels =
            ((λ j. channel_of (behind_bands j) ∷ channel_of (behind_left j) ∷ [])
            ∙ channels_of u.channels s.channels s.sections) i;
      }

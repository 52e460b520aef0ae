-- What a store of a section or of two neighbours changes in a list of floats, and what it leaves; and that whole floats stay whole.
use mathlib.Core.Path.{◌≡◌, refl, sym, ap, ◌∙◌, subst}
use mathlib.Core.Bool.{Bool, true, false}
use mathlib.Core.List.{List}
use Prim.Native.Nat.{ℕ, ◌+◌, ◌*◌, ◌≤◌, ◌<◌}
use native.Mathlib.Nat.{le_trans}
use native.Mathlib.Omega.{arith}
use lib.Dec.{eqb, lit≤, lit<}
use lib.IntN.{ℤ, nat_abs}
use lib.ListN.{length, set, length-set}
use lib.Seq.{get_or-set_same, get_or-set_other}
use lib.Ieee.{Float, nan}
use borrow.Author.Tests.{eqb-true, eqb-false}
use Rattle.words.specs.Words.{is_word}
use Rattle.words.proofs.Laws.{word_size_lem}
use Rattle.bands.specs.Bands.{band_count}
use Rattle.floats.specs.Whole.{float, whole_of}
use Rattle.unit.specs.declared.BandSection.{BandSection}
use Rattle.unit.specs.Fit.{SectionFit}
use Rattle.unit.proofs.Ranges.{remainder-size}
use Rattle.engine.specs.declared.FloatSection.{FloatSection}
use Rattle.engine.specs.declared.Sides.{Sides}
use Rattle.engine.specs.Floats.{largest, float_at, WholeFloats, float_section}
use Rattle.engine.specs.Layout.{section_floats, pair_floats, float_section_at, put_section, sides_at, put_sides}
use Rattle.engine.proofs.Carry.{whole_is}

-- x is the float of the whole number that it stands for
abbrev pub IsWhole : Float → Type 0
IsWhole x = x ≡ float (whole_of x)

pub float_whole : (x : Float) (z : ℤ) → x ≡ float z → nat_abs z ≤ largest → IsWhole x
float_whole x z e h = e ∙ ap float (sym (whole_is x z e h))

-- whole floats stay whole where one is replaced by a whole one
pub set_whole : (l : List Float) (k : ℕ) (x : Float) → WholeFloats l → IsWhole x → WholeFloats (set l k x)
set_whole l k x w e j h = go (eqb j k) refl
  where
    go : (t : Bool) → eqb j k ≡ t → IsWhole (float_at (set l k x) j)
    go true t =
        subst (λ (i : ℕ). IsWhole (float_at (set l k x) i)) (sym (eqb-true j k t))
        (subst IsWhole (sym (get_or-set_same l k x nan (omega (arith, eqb-true j k t, h, length-set l k x)))) e)
    go false t = subst IsWhole (sym (get_or-set_other l k j x nan (eqb-false j k t))) (w j (omega (arith, h, length-set l k x)))

-- ---- a section

-- its numbers are whole
pub record WholeSection (s : FloatSection) : Type 0 where
  pub y1 : IsWhole s.y1
  pub y2 : IsWhole s.y2
  pub present : IsWhole s.gain.present
  pub target : IsWhole s.gain.target
  pub remainder : IsWhole s.remainder

-- as the floats of a fit section are
pub fit_whole : (s : BandSection) → SectionFit s → WholeSection (float_section s)
fit_whole s f =
    record {
      y1 = word s.y1 f.y1;
      y2 = word s.y2 f.y2;
      present = word s.gain.present f.present;
      target = word s.gain.target f.target;
      remainder = float_whole (float s.remainder) s.remainder refl (le_trans (remainder-size s.remainder f.remainder) (lit≤ tt));
    }
  where
    word : (z : ℤ) → is_word z ≡ true → IsWhole (float z)
    word z w = float_whole (float z) z refl (le_trans (word_size_lem z w) (lit≤ tt))

module _ (l : List Float) (at : ℕ) (s : FloatSection) where
  abbrev one : List Float
  one = set l at s.y1

  abbrev two : List Float
  two = set one (at + 2) s.y2

  abbrev three : List Float
  three = set two (at + 4) s.gain.present

  abbrev four : List Float
  four = set three (at + 6) s.gain.target

  pub section_length : length (put_section l at s) ≡ length l
  unfolding put_section
  section_length = simp length-set

  pub section_outside : (j : ℕ) → ((k : ℕ) → k < 5 → j ≡ at + 2 * k → ⊥) → float_at (put_section l at s) j ≡ float_at l j
  unfolding put_section
  section_outside j away =
      get_or-set_other four (at + 8) j s.remainder nan (away 4 (lit< tt))
      ∙ get_or-set_other three (at + 6) j s.gain.target nan (away 3 (lit< tt))
      ∙ get_or-set_other two (at + 4) j s.gain.present nan (away 2 (lit< tt))
      ∙ get_or-set_other one (at + 2) j s.y2 nan (away 1 (lit< tt))
      ∙ get_or-set_other l at j s.y1 nan (λ e. away 0 (lit< tt) (omega arith))

  pub section_same : at + 8 < length l → float_section_at (put_section l at s) at ≡ s
  unfolding put_section
  section_same k =
      λ i.
      record {
        y1 =
            (get_or-set_other four (at + 8) at s.remainder nan (λ e. omega arith)
            ∙ get_or-set_other three (at + 6) at s.gain.target nan (λ e. omega arith)
            ∙ get_or-set_other two (at + 4) at s.gain.present nan (λ e. omega arith)
            ∙ get_or-set_other one (at + 2) at s.y2 nan (λ e. omega arith)
            ∙ get_or-set_same l at s.y1 nan (omega arith)) i;
        y2 =
            (get_or-set_other four (at + 8) (at + 2) s.remainder nan (λ e. omega arith)
            ∙ get_or-set_other three (at + 6) (at + 2) s.gain.target nan (λ e. omega arith)
            ∙ get_or-set_other two (at + 4) (at + 2) s.gain.present nan (λ e. omega arith)
            ∙ get_or-set_same one (at + 2) s.y2 nan (omega (arith, length-set l at s.y1))) i;
        gain =
            record {
              present =
                  (get_or-set_other four (at + 8) (at + 4) s.remainder nan (λ e. omega arith)
                  ∙ get_or-set_other three (at + 6) (at + 4) s.gain.target nan (λ e. omega arith)
                  ∙ get_or-set_same two (at + 4) s.gain.present nan (omega (arith, length-set l at s.y1, length-set one (at + 2) s.y2))) i;
              target =
                  (get_or-set_other four (at + 8) (at + 6) s.remainder nan (λ e. omega arith)
                  ∙ get_or-set_same three (at + 6) s.gain.target nan
                  (omega (arith, length-set l at s.y1, length-set one (at + 2) s.y2, length-set two (at + 4) s.gain.present))) i;
            };
        remainder =
            get_or-set_same four (at + 8) s.remainder nan
            (omega (arith, length-set l at s.y1, length-set one (at + 2) s.y2, length-set two (at + 4) s.gain.present, length-set three (at + 6) s.gain.target)) i;
      }

  pub section_whole : WholeFloats l → WholeSection s → WholeFloats (put_section l at s)
  unfolding put_section
  section_whole w h =
      set_whole four (at + 8) s.remainder
      (set_whole three (at + 6) s.gain.target
      (set_whole two (at + 4) s.gain.present (set_whole one (at + 2) s.y2 (set_whole l at s.y1 w h.y1) h.y2) h.present) h.target) h.remainder

-- ---- two neighbours

module _ (l : List Float) (at : ℕ) (s : Sides Float) where
  abbrev front : List Float
  front = set l at s.first

  pub sides-length : length (put_sides l at s) ≡ length l
  unfolding put_sides
  sides-length = simp length-set

  pub sides_outside : (j : ℕ) → (j ≡ at → ⊥) → (j ≡ at + 1 → ⊥) → float_at (put_sides l at s) j ≡ float_at l j
  unfolding put_sides
  sides_outside j h0 h1 = get_or-set_other front (at + 1) j s.second nan h1 ∙ get_or-set_other l at j s.first nan h0

  pub sides_same : at + 1 < length l → sides_at (put_sides l at s) at ≡ s
  unfolding put_sides
  sides_same k =
      λ i.
      record {
        first = (get_or-set_other front (at + 1) at s.second nan (λ e. omega arith) ∙ get_or-set_same l at s.first nan (omega arith)) i;
        second = get_or-set_same front (at + 1) s.second nan (omega (arith, length-set l at s.first)) i;
      }

  pub sides_whole : WholeFloats l → IsWhole s.first → IsWhole s.second → WholeFloats (put_sides l at s)
  unfolding put_sides
  sides_whole w a b = set_whole front (at + 1) s.second (set_whole l at s.first w a) b

-- ---- both sections of band n

module _ (l : List Float) (n : ℕ) (s t : FloatSection) (size : length l ≡ pair_floats) (below : n < band_count) where
  abbrev first : List Float
  first = put_section l (section_floats * n) s

  abbrev pub both : List Float
  both = put_section first (section_floats * n + 1) t

  pub both-length : length both ≡ length l
  both-length = section_length first (section_floats * n + 1) t ∙ section_length l (section_floats * n) s

  pub both_away : (j : ℕ) → (section_floats * n ≤ j → j < section_floats * n + section_floats → ⊥) → float_at both j ≡ float_at l j
  both_away j a =
      section_outside first (section_floats * n + 1) t j (λ k h e. a (omega arith) (omega arith))
      ∙ section_outside l (section_floats * n) s j (λ k h e. a (omega arith) (omega arith))

  pub both-second : float_section_at both (section_floats * n + 1) ≡ t
  both-second = section_same first (section_floats * n + 1) t (omega (arith, section_length l (section_floats * n) s))

  pub both_first : float_section_at both (section_floats * n) ≡ s
  both_first =
      (λ i. record {
        y1 = keeps (section_floats * n) (λ k h e. omega arith) i;
        y2 = keeps (section_floats * n + 2) (λ k h e. omega arith) i;
        gain =
            record {
              present = keeps (section_floats * n + 4) (λ k h e. omega arith) i;
              target = keeps (section_floats * n + 6) (λ k h e. omega arith) i;
            };
        remainder = keeps (section_floats * n + 8) (λ k h e. omega arith) i;
      })
      ∙ section_same l (section_floats * n) s (omega arith)
    where
      keeps : (j : ℕ) → ((k : ℕ) → k < 5 → j ≡ section_floats * n + 1 + 2 * k → ⊥) → float_at both j ≡ float_at first j
      keeps = section_outside first (section_floats * n + 1) t

  -- a section that stands before these, or behind
  pub both_other : (at : ℕ) → ((j : ℕ) → at ≤ j → j ≤ at + 8 → section_floats * n ≤ j → j < section_floats * n + section_floats → ⊥) → float_section_at both at ≡ float_section_at l at
  both_other at a =
      λ i.
      record {
        y1 = both_away at (λ g h. a at (omega arith) (omega arith) g h) i;
        y2 = both_away (at + 2) (λ g h. a (at + 2) (omega arith) (omega arith) g h) i;
        gain =
            record {
              present = both_away (at + 4) (λ g h. a (at + 4) (omega arith) (omega arith) g h) i;
              target = both_away (at + 6) (λ g h. a (at + 6) (omega arith) (omega arith) g h) i;
            };
        remainder = both_away (at + 8) (λ g h. a (at + 8) (omega arith) (omega arith) g h) i;
      }

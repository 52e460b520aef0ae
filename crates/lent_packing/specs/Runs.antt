-- Two runs of lent numbers, one for each side, whose floats stand as neighbours from place `at` on: what storing one from the other asks
-- and gives. Definitions only.
use Rattle.std.specs.Prelude.{◌≡◌, List, ℕ, ◌+◌, ◌*◌, ◌≤◌, ◌<◌, ℤ, pos, length, get_or, Float}
use Rattle.words.specs.Words.{word_size}
use Rattle.floats.specs.Whole.{whole_of}
use Rattle.engine.specs.Floats.{Carries, float_at, WholeFloats}
use Rattle.engine.specs.Layout.{side_count}
use Rattle.numbers.specs.Layout.{unit_size}

-- number k of a list of numbers
abbrev pub number_at : List ℤ → ℕ → ℤ
number_at l k = get_or l k (pos 0)

module _ (at first second count : ℕ) where
  -- ---- floats from numbers

  pub record PutRunsAsks (l : List Float) : Type 0 where
    pub whole : WholeFloats l
    pub room : at + side_count * count ≤ length l
    pub first_inside : first + count ≤ unit_size
    pub second_inside : second + count ≤ unit_size

  pub record PutRunsGives (l : List Float) (numbers : List ℤ) (after : List Float) : Type 0 where
    pub size : length after ≡ length l
    pub whole : WholeFloats after
    pub firsts : (k : ℕ) → k < count → whole_of (float_at after (at + side_count * k)) ≡ number_at numbers (first + k)
    pub seconds : (k : ℕ) → k < count → whole_of (float_at after (at + side_count * k + 1)) ≡ number_at numbers (second + k)
    pub outside : (j : ℕ) → (at ≤ j → j < at + side_count * count → ⊥) → float_at after j ≡ float_at l j

  -- ---- numbers from floats

  pub record TakeRunsAsks (numbers : List ℤ) (l : List Float) : Type 0 where
    pub size : length numbers ≡ unit_size
    pub apart : first + count ≤ second
    pub inside : second + count ≤ unit_size
    pub room : at + side_count * count ≤ length l
    pub carries : (j : ℕ) → at ≤ j → j < at + side_count * count → Carries (float_at l j) word_size

  pub record TakeRunsGives (numbers : List ℤ) (l : List Float) (after : List ℤ) : Type 0 where
    pub size : length after ≡ unit_size
    pub firsts : (k : ℕ) → k < count → number_at after (first + k) ≡ whole_of (float_at l (at + side_count * k))
    pub seconds : (k : ℕ) → k < count → number_at after (second + k) ≡ whole_of (float_at l (at + side_count * k + 1))
    pub outside : (j : ℕ) → (first ≤ j → j < first + count → ⊥) → (second ≤ j → j < second + count → ⊥) → number_at after j ≡ number_at numbers j

-- Loops over a list: a test of every entry, and a list that is filled from the front.
use mathlib.Core.Path.{◌≡◌, refl, sym, ap, ◌∙◌, subst}
use mathlib.Core.Bool.{Bool, true, false, not, ◌&&◌, and_assoc, and-true}
use mathlib.Core.List.{List, [], ◌∷◌, ◌++◌}
use Prim.Native.Nat.{ℕ, ◌+◌, ◌≤◌, ◌<◌}
use native.Mathlib.Numerals.{add-one}
use native.Mathlib.Omega.{arith}
use lib.ListN.{length, get_or, take, drop, set, length-set, drop_of_length-le}
use borrow.Author.Tests.{not-true, not-false}
use lib.Seq.{drop-cons, take_all, take-suc-set}
use Rattle.lists.specs.Lists.{tabulate}
use Rattle.std.specs.List.{list_all}

-- ---- what is told of a list, entry by entry: from entry i on

module _ {A B : Type 0} (of : List A → B) (l : List A) (i : ℕ) {told : B} (e : told ≡ of (drop i l)) where
  -- entry i, and what follows it
  pub told_next : (d : A) → i < length l → told ≡ of (get_or l i d ∷ drop (i + 1) l)
  told_next d h = e ∙ rw (add-one, drop-cons l i d)

  -- past the last entry
  pub told_done : length l ≤ i → told ≡ of []
  told_done h = e ∙ ap of (drop_of_length-le l h)

-- ---- a test of every entry

-- the test of every entry from place `first` on is that of the entries from i on
pub record EveryFrom {A : Type 0} (test : A → Bool) (l : List A) (first i : ℕ) : Type 0 where
  pub left : list_all test (drop first l) ≡ list_all test (drop i l)

pub every_begin : {A : Type 0} {test : A → Bool} {l : List A} {first : ℕ} → EveryFrom test l first first
every_begin = record { left = refl }

module _ {A : Type 0} {test : A → Bool} {l : List A} {first i : ℕ} (from : EveryFrom test l first i) where
  -- past the last entry
  pub every_done : length l ≤ i → true ≡ list_all test (drop first l)
  every_done h = sym (told_done (list_all test) l i from.left h)

  -- entry i is tested
  module _ (d : A) {t : Bool} (h : i < length l) (tested : t ≡ test (get_or l i d)) where
    -- and fails
    pub every_fails : not t ≡ true → false ≡ list_all test (drop first l)
    every_fails f = sym (told_next (list_all test) l i from.left d h ∙ simp (sym tested ∙ not-true t f))

    -- and passes
    pub every-passes : not t ≡ false → EveryFrom test l first (i + 1)
    every-passes p = record { left = told_next (list_all test) l i from.left d h ∙ simp (sym tested ∙ not-false t p) }

-- ---- a test of every entry, with no branch

-- what is found of the entries from place `first` on is the test of those below i
pub record EveryFound {A : Type 0} (test : A → Bool) (l : List A) (first : ℕ) (found : Bool) (i : ℕ) : Type 0 where
  pub below : i ≤ length l
  pub whole : list_all test (drop first l) ≡ found && list_all test (drop i l)

pub found_begin : {A : Type 0} {test : A → Bool} {l : List A} {first : ℕ} → first ≤ length l → EveryFound test l first true first
found_begin h = record { below = h; whole = refl }

module _ {A : Type 0} {test : A → Bool} {l : List A} {first i : ℕ} {found : Bool} (so : EveryFound test l first found i) where
  -- entry i is tested
  pub found-next : (d : A) {t : Bool} → i < length l → t ≡ test (get_or l i d) → EveryFound test l first (found && t) (i + 1)
  found-next d {t} h e =
      record {
        below = omega arith;
        whole =
            told_next (λ (m : List A). found && list_all test m) l i so.whole d h
            ∙ ap (λ (u : Bool). found && (u && list_all test (drop (i + 1) l))) (sym e)
            ∙ sym (and_assoc found t (list_all test (drop (i + 1) l)));
      }

  -- past the last entry
  pub found_done : length l ≤ i → found ≡ list_all test (drop first l)
  found_done h = sym (told_done (λ (m : List A). found && list_all test m) l i so.whole h ∙ and-true found)

-- ---- a list of n entries that is filled from the front with f 0, f 1 and so on

-- the entries below i are there
pub record Tabulated {A : Type 0} (f : ℕ → A) (n : ℕ) (l : List A) (i : ℕ) : Type 0 where
  pub below : i ≤ n
  pub size : length l ≡ n
  pub front : take i l ≡ tabulate i f

-- none is there
pub tabulated_begin : {A : Type 0} {f : ℕ → A} {n : ℕ} {l : List A} → length l ≡ n → Tabulated f n l 0
tabulated_begin e = record { below = omega arith; size = e; front = refl }

module _ {A : Type 0} {f : ℕ → A} {n : ℕ} {l : List A} {i : ℕ} (filled : Tabulated f n l i) where
  -- f i is stored
  pub tabulated_next : {a : A} → i < n → a ≡ f i → Tabulated f n (set l i a) (i + 1)
  tabulated_next {a} h e =
      record {
        below = omega arith;
        size = length-set l i a ∙ filled.size;
        front = rw add-one (take-suc-set l i a (omega arith) ∙ (λ j. filled.front j ++ (e j ∷ [])));
      }

  -- all are there
  pub tabulated_done : n ≤ i → l ≡ tabulate n f
  tabulated_done h =
      let all : i ≡ n = omega arith in
      sym (take_all n l (omega arith)) ∙ subst (λ (k : ℕ). take k l ≡ tabulate k f) all filled.front

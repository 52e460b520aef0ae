-- A list that is changed from the front, entry by entry: entry i is changed where its place passes the test.
use mathlib.Core.Path.{◌≡◌, refl, sym, ap, ◌∙◌}
use mathlib.Core.Bool.{Bool, true, false, cond, ◌&&◌}
use mathlib.Core.List.{List, [], ◌∷◌}
use Prim.Native.Nat.{ℕ, suc, ◌+◌, ◌<◌, ◌≤◌}
use native.Mathlib.Omega.{arith}
use lib.Dec.{eqb, ltb}
use lib.ListN.{length, get_or, set, length-set}
use lib.Seq.{ext_get_or, get_or-set_same, get_or-set_other}
use borrow.Author.Tests.{eqb-true, eqb-false, ltb-true, ltb-false, lt-ltb, le-ltb}
use Rattle.lists.specs.Lists.{changed}
use Rattle.lists.proofs.Changed.{changed-length, changed-at}

-- tests that agree change the same entries
changed_cong : {A : Type 0} (s t : ℕ → Bool) (f : A → A) (l : List A) → ((k : ℕ) → k < length l → s k ≡ t k) → changed s f l ≡ changed t f l
changed_cong s t f [] h = refl
changed_cong s t f (a ∷ l) h =
    λ i.
    cond (h 0 (omega arith) i) (f a) a ∷ changed_cong (λ (k : ℕ). s (suc k)) (λ (k : ℕ). t (suc k)) f l (λ k g. h (suc k) (omega arith)) i

-- no entry is changed
changed_none : {A : Type 0} (f : A → A) (l : List A) → l ≡ changed (λ (k : ℕ). false) f l
changed_none f [] = refl
changed_none f (a ∷ l) = ap (λ m. a ∷ m) (changed_none f l)

-- the test of the places below i
abbrev pub below : (ℕ → Bool) → ℕ → ℕ → Bool
below test i k = ltb k i && test k

module _ {A : Type 0} (test : ℕ → Bool) (f : A → A) (l : List A) where
  -- none is changed yet
  pub front_begin : l ≡ changed (below test 0) f l
  front_begin =
      changed_none f l
      ∙ changed_cong (λ (k : ℕ). false) (below test 0) f l (λ k h. ap (λ (t : Bool). t && test k) (sym (le-ltb k 0 (omega arith))))

  -- all are
  pub front_done : (i : ℕ) → length l ≤ i → changed (below test i) f l ≡ changed test f l
  front_done i h = changed_cong (below test i) test f l (λ k g. ap (λ (t : Bool). t && test k) (lt-ltb k i (omega arith)))

  module _ (i : ℕ) where
    -- only the test of entry i differs
    below_other : (k : ℕ) → (k ≡ i → ⊥) → below test i k ≡ below test (i + 1) k
    below_other k n = go (ltb k i) refl
      where
        go : (t : Bool) → ltb k i ≡ t → below test i k ≡ below test (i + 1) k
        go true e = simp (e, lt-ltb k (i + 1) (omega (arith, ltb-true k i e)))
        go false e = simp (e, le-ltb k (i + 1) (omega (arith, ltb-false k i e)))

    -- entry i of what is changed so far is stored again, changed where it passes the test
    module _ (d : A) (m : List A) (h : i < length l) (e : m ≡ changed (below test i) f l) (a : A) (a-is : a ≡ cond (test i) (f (get_or m i d)) (get_or m i d)) where
      long : length m ≡ length l
      long = ap length e ∙ changed-length (below test i) f l

      before : (k : ℕ) → k < length l → get_or m k d ≡ cond (below test i k) (f (get_or l k d)) (get_or l k d)
      before k g = ap (λ (n : List A). get_or n k d) e ∙ changed-at (below test i) f l d k g

      here : get_or m i d ≡ get_or l i d
      here = before i h ∙ simp (le-ltb i i (omega arith))

      entry : (k : ℕ) → k < length l → get_or (set m i a) k d ≡ get_or (changed (below test (i + 1)) f l) k d
      entry k g = go (eqb k i) refl
        where
          go : (t : Bool) → eqb k i ≡ t → get_or (set m i a) k d ≡ get_or (changed (below test (i + 1)) f l) k d
          go true q =
              rw (eqb-true k i q)
              (get_or-set_same m i a d (omega (arith, long))
              ∙ a-is
              ∙ ap (λ (b : A). cond (test i) (f b) b) here
              ∙ sym (changed-at (below test (i + 1)) f l d i h ∙ simp (lt-ltb i (i + 1) (omega arith))))
          go false q =
              get_or-set_other m i k a d (eqb-false k i q)
              ∙ before k g
              ∙ ap (λ (t : Bool). cond t (f (get_or l k d)) (get_or l k d)) (below_other k (eqb-false k i q))
              ∙ sym (changed-at (below test (i + 1)) f l d k g)

      pub front_next : set m i a ≡ changed (below test (i + 1)) f l
      front_next =
          ext_get_or d (set m i a) (changed (below test (i + 1)) f l)
          (length-set m i a ∙ long ∙ sym (changed-length (below test (i + 1)) f l))
          (λ k g. entry k (omega (arith, length-set m i a, long)))

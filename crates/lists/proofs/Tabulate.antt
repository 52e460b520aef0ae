-- A list by its entries: what holds of each, and tests of it, one entry at a time.
use mathlib.Core.Path.{◌≡◌, refl, sym, ap, ap₂, ◌∙◌}
use mathlib.Core.Bool.{Bool, ◌&&◌, ◌||◌, and_assoc, and-true, or_assoc, or-false}
use mathlib.Core.List.{List, [], ◌∷◌, ◌++◌}
use Prim.Native.Nat.{ℕ, zero, suc, ◌≤◌, ◌<◌}
use native.Mathlib.Omega.{arith}
use borrow.Author.Count.{below_more}
use lib.ListN.{length, get_or, take, length-append, get_or-append}
use lib.Seq.{take-suc, take_all, get_or_at}
use Rattle.lists.specs.Lists.{tabulate, Each, any_of}
use Rattle.std.specs.List.{list_all}

-- equal entries make equal lists
pub tabulate_cong : {A : Type 0} (n : ℕ) {f g : ℕ → A} → ((k : ℕ) → k < n → f k ≡ g k) → tabulate n f ≡ tabulate n g
tabulate_cong zero h = refl
tabulate_cong (suc n) {f} {g} h = ap₂ ◌++◌ (tabulate_cong n (λ k l. h k (omega arith))) (ap (λ a. a ∷ []) (h n (omega arith)))

-- what holds of every entry holds of entry k
pub each_get_d : {A : Type 0} (P : A → Type 0) (l : List A) (d : A) → Each P l → (k : ℕ) → k < length l → P (get_or l k d)
each_get_d P [] d h k e = absurd (omega arith)
each_get_d P (a ∷ l) d h zero e = h.0
each_get_d P (a ∷ l) d h (suc k) e = each_get_d P l d h.1 k (omega arith)

module _ {A : Type 0} (P : A → Type 0) where
  each_snoc : (l : List A) (a : A) → Each P (l ++ (a ∷ [])) → Each P l × P a
  each_snoc [] a h = (tt, h.0)
  each_snoc (b ∷ l) a h = ((h.0, (each_snoc l a h.1).0), (each_snoc l a h.1).1)

  snoc_each : (l : List A) (a : A) → Each P l → P a → Each P (l ++ (a ∷ []))
  snoc_each [] a h p = (p, tt)
  snoc_each (b ∷ l) a h p = (h.0, snoc_each l a h.1 p)

  -- what holds of every entry of a tabulated list holds of entry k
  pub each_at : (n : ℕ) (f : ℕ → A) → Each P (tabulate n f) → (k : ℕ) → k < n → P (f k)
  each_at zero f h k l = absurd (omega arith)
  each_at (suc n) f h k l =
      below_more (λ (i : ℕ). P (f i)) n (each_at n f (each_snoc (tabulate n f) (f n) h).0) (each_snoc (tabulate n f) (f n) h).1 k (omega arith)

  -- and the other way round
  pub at_each : (n : ℕ) (f : ℕ → A) → ((k : ℕ) → k < n → P (f k)) → Each P (tabulate n f)
  at_each zero f h = tt
  at_each (suc n) f h = snoc_each (tabulate n f) (f n) (at_each n f (λ k l. h k (omega arith))) (h n (omega arith))

-- a test of every entry goes over appending
pub every_append : {A : Type 0} (test : A → Bool) (a b : List A) → list_all test (a ++ b) ≡ list_all test a && list_all test b
every_append test [] b = refl
every_append test (e ∷ a) b = ap (λ (r : Bool). test e && r) (every_append test a b) ∙ sym (and_assoc (test e) (list_all test a) (list_all test b))

pub every_snoc : {A : Type 0} (test : A → Bool) (l : List A) (a : A) → list_all test (l ++ (a ∷ [])) ≡ list_all test l && test a
every_snoc test l a = every_append test l (a ∷ []) ∙ ap (λ (r : Bool). list_all test l && r) (and-true (test a))

-- a test of any goes over appending
pub any_append : (a b : List Bool) → any_of (a ++ b) ≡ any_of a || any_of b
any_append [] b = refl
any_append (t ∷ a) b = ap (λ (r : Bool). t || r) (any_append a b) ∙ sym (or_assoc t (any_of a) (any_of b))

pub any_snoc : (l : List Bool) (t : Bool) → any_of (l ++ (t ∷ [])) ≡ any_of l || t
any_snoc l t = any_append l (t ∷ []) ∙ ap (λ (r : Bool). any_of l || r) (or-false t)

pub tabulate-length : {A : Type 0} (n : ℕ) (f : ℕ → A) → length (tabulate n f) ≡ n
tabulate-length zero f = refl
tabulate-length (suc n) f = length-append (tabulate n f) (f n ∷ []) ∙ omega (arith, tabulate-length n f)

-- entry k is f k
pub tabulate-at : {A : Type 0} (n : ℕ) (f : ℕ → A) (d : A) (k : ℕ) → k < n → get_or (tabulate n f) k d ≡ f k
tabulate-at zero f d k h = absurd (omega arith)
tabulate-at (suc n) f d k h =
    below_more (λ (i : ℕ). get_or (tabulate (suc n) f) i d ≡ f i) n
    (λ i l. get_or-append (tabulate n f) (f n ∷ []) d i (omega (arith, tabulate-length n f)) ∙ tabulate-at n f d i l)
    (get_or_at (tabulate n f) (f n) [] d n (tabulate-length n f)) k (omega arith)

-- the entries of a list, one by one, are the front of it
pub tabulate-take : {A : Type 0} (l : List A) (d : A) (n : ℕ) → n ≤ length l → tabulate n (λ k. get_or l k d) ≡ take n l
tabulate-take l d zero h = refl
tabulate-take l d (suc n) h = ap (λ m. m ++ (get_or l n d ∷ [])) (tabulate-take l d n (omega arith)) ∙ sym (take-suc l n d (omega arith))

pub tabulate_all : {A : Type 0} (l : List A) (d : A) (n : ℕ) → length l ≡ n → tabulate n (λ k. get_or l k d) ≡ l
tabulate_all l d n h = tabulate-take l d n (omega arith) ∙ take_all n l (omega arith)

-- a list is tabulated by a function that gives each of the entries
pub tabulate_is : {A : Type 0} (l : List A) (d : A) (n : ℕ) (f : ℕ → A) → length l ≡ n → ((k : ℕ) → k < n → f k ≡ get_or l k d) → tabulate n f ≡ l
tabulate_is l d n f e h = tabulate_cong n h ∙ tabulate_all l d n e

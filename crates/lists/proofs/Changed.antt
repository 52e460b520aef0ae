-- A list with some of its entries changed: its length, its entries, and what holds of each of them.
use mathlib.Core.Path.{◌≡◌, refl, sym, ap, ◌∙◌}
use mathlib.Core.Bool.{Bool, true, false, cond}
use mathlib.Core.List.{List, [], ◌∷◌}
use Prim.Native.Nat.{ℕ, zero, suc, ◌<◌}
use native.Mathlib.Omega.{arith}
use lib.Dec.{eqb}
use borrow.Author.Tests.{eqb-true, eqb-false}
use lib.ListN.{length, get_or, drop, set, length-set}
use lib.Seq.{ext_get_or, get_or-set_same, get_or-set_other}
use Rattle.lists.specs.Lists.{tabulate, changed, Each}
use Rattle.lists.proofs.Tabulate.{tabulate_cong, tabulate-length, tabulate-at, tabulate_all}

-- no entry is added or lost
pub changed-length : {A : Type 0} (test : ℕ → Bool) (f : A → A) (l : List A) → length (changed test f l) ≡ length l
changed-length test f [] = refl
changed-length test f (a ∷ l) = ap suc (changed-length (λ (place : ℕ). test (suc place)) f l)

-- entry i is f of what it was where its place passes the test, and else what it was
pub changed-at : {A : Type 0} (test : ℕ → Bool) (f : A → A) (l : List A) (d : A) (i : ℕ) → i < length l → get_or (changed test f l) i d ≡ cond (test i) (f (get_or l i d)) (get_or l i d)
changed-at test f [] d i h = absurd (omega arith)
changed-at test f (a ∷ l) d zero h = refl
changed-at test f (a ∷ l) d (suc i) h = changed-at (λ (place : ℕ). test (suc place)) f l d i (omega arith)

-- a list by its entries
pub changed-tabulate : {A : Type 0} (test : ℕ → Bool) (f : A → A) (n : ℕ) (g : ℕ → A) (d : A) → changed test f (tabulate n g) ≡ tabulate n (λ k. cond (test k) (f (g k)) (g k))
changed-tabulate {A} test f n g d =
    sym (tabulate_all (changed test f (tabulate n g)) d n long)
    ∙ tabulate_cong n
    (λ k h. changed-at test f (tabulate n g) d k (omega (arith, tabulate-length n g))
    ∙ ap (λ (a : A). cond (test k) (f a) a) (tabulate-at n g d k h))
  where
    long : length (changed test f (tabulate n g)) ≡ n
    long = changed-length test f (tabulate n g) ∙ tabulate-length n g

-- the entry of a single place: a store there
pub changed-set : {A : Type 0} (f : A → A) (l : List A) (d : A) (b : ℕ) → b < length l → changed (eqb b) f l ≡ set l b (f (get_or l b d))
changed-set {A} f l d b h =
    ext_get_or d (changed (eqb b) f l) (set l b (f (get_or l b d)))
    (changed-length (eqb b) f l ∙ sym (length-set l b (f (get_or l b d))))
    (λ i k. changed-at (eqb b) f l d i (omega (arith, changed-length (eqb b) f l)) ∙ go i (eqb b i) refl)
  where
    go : (i : ℕ) (t : Bool) → eqb b i ≡ t → cond t (f (get_or l i d)) (get_or l i d) ≡ get_or (set l b (f (get_or l b d))) i d
    go i true e = rw (← eqb-true b i e) (sym (get_or-set_same l b (f (get_or l b d)) d h))
    go i false e = sym (get_or-set_other l b i (f (get_or l b d)) d (λ s. eqb-false b i e (sym s)))

-- what f keeps holds of every entry still
pub changed-each : {A : Type 0} (P : A → Type 0) (test : ℕ → Bool) (f : A → A) (l : List A) → ((a : A) → P a → P (f a)) → Each P l → Each P (changed test f l)
changed-each P test f [] keeps h = tt
changed-each P test f (a ∷ l) keeps h =
    (go (test 0), changed-each P (λ (place : ℕ). test (suc place)) f l keeps h.1)
  where
    go : (t : Bool) → P (cond t (f a) a)
    go true = keeps a h.0
    go false = h.0

-- so it does of every entry from place k on
pub changed-drop : {A : Type 0} (P : A → Type 0) (k : ℕ) (test : ℕ → Bool) (f : A → A) (l : List A) → ((a : A) → P a → P (f a)) → Each P (drop k l) → Each P (drop k (changed test f l))
changed-drop P zero test f l keeps h = changed-each P test f l keeps h
changed-drop P (suc k) test f [] keeps h = tt
changed-drop P (suc k) test f (a ∷ l) keeps h = changed-drop P k (λ (place : ℕ). test (suc place)) f l keeps h

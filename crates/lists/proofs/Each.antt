-- What holds of every entry of a list, and a test of it.
use mathlib.Core.Path.{◌≡◌, refl}
use mathlib.Core.Bool.{Bool, true}
use mathlib.Core.List.{List, [], ◌∷◌}
use Prim.Native.Nat.{ℕ, zero, suc}
use lib.ListN.{replicate}
use Rattle.integers.proofs.Order.{both_true}
use Rattle.lists.specs.Lists.{Each}
use Rattle.std.specs.List.{list_all}

-- the test of every entry, and the property that it decides
pub each_of_every : {A : Type 0} {P : A → Type 0} (test : A → Bool) → ((a : A) → test a ≡ true → P a) → (l : List A) → list_all test l ≡ true → Each P l
each_of_every test f [] e = tt
each_of_every test f (a ∷ l) e = (f a tests.0, each_of_every test f l tests.1)
  where
    tests : (test a ≡ true) × (list_all test l ≡ true)
    tests = both_true (test a) (list_all test l) e

pub every_of_each : {A : Type 0} {P : A → Type 0} (test : A → Bool) → ((a : A) → P a → test a ≡ true) → (l : List A) → Each P l → list_all test l ≡ true
every_of_each test f [] h = refl
every_of_each test f (a ∷ l) h = simp (f a h.0, every_of_each test f l h.1)

-- n times the same entry
pub each-replicate : {A : Type 0} (P : A → Type 0) (n : ℕ) (a : A) → P a → Each P (replicate n a)
each-replicate P zero a h = tt
each-replicate P (suc n) a h = (h, each-replicate P n a h)

-- Lists by their entries, one after the other, and tests of every entry. Definitions only.
use Rattle.std.specs.Prelude.{Bool, false, cond, ◌||◌, List, [], ◌∷◌, ◌++◌, ℕ, zero, suc}

-- the list of f 0, f 1, up to f (n - 1)
abbrev pub tabulate : {A : Type 0} → ℕ → (ℕ → A) → List A
tabulate zero f = []
tabulate (suc n) f = tabulate n f ++ (f n ∷ [])

-- f of each entry whose place passes the test, and the others as they are; places count from 0
abbrev pub changed : {A : Type 0} → (ℕ → Bool) → (A → A) → List A → List A
changed test f [] = []
changed test f (a ∷ rest) = cond (test 0) (f a) a ∷ changed (λ (place : ℕ). test (suc place)) f rest

-- the property holds of every entry
abbrev pub Each : {A : Type 0} → (A → Type 0) → List A → Type 0
Each P [] = Unit {0}
Each P (a ∷ rest) = P a × Each P rest

-- one of the entries is true
abbrev pub any_of : List Bool → Bool
any_of [] = false
any_of (t ∷ rest) = t || any_of rest

-- what f gives for each entry, one entry after the other
abbrev pub joined : {A B : Type 0} → (A → List B) → List A → List B
joined f [] = []
joined f (a ∷ rest) = f a ++ joined f rest

-- Laws of a run of stores.
use mathlib.Core.Path.{◌≡◌, refl, ap, ◌∙◌}
use mathlib.Core.List.{List, [], ◌∷◌, ◌++◌, append_assoc, append-nil}
use Prim.Native.Nat.{ℕ, suc, ◌+◌, ◌≤◌, ◌<◌}
use native.Mathlib.Omega.{arith}
use lib.ListN.{length, take, drop, set, drop_of_length-le}
use lib.Seq.{sets, sets-eq, set_comm, take_at, drop_at, length-take-le}

module _ {ℓ} {A : Type ℓ} where
  -- a run of stores right behind another is one run
  pub sets_append : (p q l : List A) (i j : ℕ) → j ≡ i + length p → sets (sets l i p) j q ≡ sets l i (p ++ q)
  sets_append [] q l i j e =
      let start : j ≡ i = omega arith in
      ap (λ (k : ℕ). sets l k q) start
  sets_append (a ∷ p) q l i j e = sets_append p q (set l i a) (suc i) j (omega arith)

  -- so it is of a run that was stored, and another behind it
  pub sets_behind : (l p q : List A) (i j : ℕ) {first last : List A} → j ≡ i + length p → first ≡ sets l i p → last ≡ sets first j q → last ≡ sets l i (p ++ q)
  sets_behind l p q i j e f g = g ∙ ap (λ (m : List A). sets m j q) f ∙ sets_append p q l i j e

  -- a store before a run may be made first
  set-sets : (p l : List A) (i j : ℕ) (a : A) → i < j → set (sets l j p) i a ≡ sets (set l i a) j p
  set-sets [] l i j a h = refl
  set-sets (b ∷ p) l i j a h =
      set-sets p (set l j b) i (suc j) a (omega arith) ∙ ap (λ (m : List A). sets m (suc j) p) (set_comm l j i b a (λ e. omega arith))

  -- a store right in front of a run makes it longer
  pub sets_cons : (p l : List A) (i j : ℕ) (a : A) → j ≡ suc i → set (sets l j p) i a ≡ sets l i (a ∷ p)
  sets_cons p l i j a e = set-sets p l i j a (omega arith) ∙ ap (λ (k : ℕ). sets (set l i a) k p) e

  -- a store right behind a run may be made first
  pub sets_snoc : (p l : List A) (i j : ℕ) (a : A) → j ≡ i + length p → sets (set l j a) i p ≡ sets l i (p ++ (a ∷ []))
  sets_snoc [] l i j a e =
      let start : j ≡ i = omega arith in
      ap (λ (k : ℕ). set l k a) start
  sets_snoc (b ∷ p) l i j a e =
      ap (λ (m : List A). sets m (suc i) p) (set_comm l j i a b (λ q. omega arith)) ∙ sets_snoc p (set l i b) (suc i) j a (omega arith)

module _ {A : Type 0} (p l : List A) where
  -- a run at the front stands before what was behind it
  pub stored_front : (n : ℕ) → length p ≡ n → n ≤ length l → sets l 0 p ≡ p ++ drop n l
  stored_front n e h =
      let size : 0 + length p ≡ n = omega arith in
      sets-eq p l 0 (omega arith) ∙ ap (λ (k : ℕ). p ++ drop k l) size

  -- over as many entries it is all that stands
  pub stored_whole : length p ≡ length l → sets l 0 p ≡ p
  stored_whole e =
      stored_front (length l) e (omega arith) ∙ ap (λ (r : List A). p ++ r) (drop_of_length-le l {i = length l} (omega arith)) ∙ append-nil p

  -- from its place on it stands
  pub stored_part : (place n : ℕ) → length p ≡ n → place + n ≤ length l → take n (drop place (sets l place p)) ≡ p
  stored_part place n e h =
      ap (λ (r : List A). take n (drop place r)) (sets-eq p l place (omega arith) ∙ append_assoc (take place l) p behind)
      ∙ ap (take n) (drop_at (take place l) (p ++ behind) place (length-take-le place l (omega arith)))
      ∙ take_at p behind n e
    where
      behind : List A
      behind = drop (place + length p) l

-- What is joined of entries, one entry after the other.
use mathlib.Core.Path.{◌≡◌, sym, ap, ◌∙◌}
use mathlib.Core.List.{List, [], ◌∷◌, ◌++◌, append_assoc, append-nil}
use native.Mathlib.Omega.{arith}
use lib.ListN.{length, get_or}
use Rattle.lists.specs.Lists.{joined}

pub joined_snoc : {A B : Type 0} (f : A → List B) (l : List A) (a : A) → joined f (l ++ (a ∷ [])) ≡ joined f l ++ f a
joined_snoc f [] a = append-nil (f a)
joined_snoc {B = B} f (b ∷ l) a = ap (λ (x : List B). f b ++ x) (joined_snoc f l a) ∙ sym (append_assoc (f b) (joined f l) (f a))

-- of two entries
pub joined-two : {A B : Type 0} (f : A → List B) (l : List A) (d : A) → length l ≡ 2 → joined f l ≡ f (get_or l 0 d) ++ f (get_or l 1 d)
joined-two f [] d e = absurd (omega arith)
joined-two f (a ∷ []) d e = absurd (omega arith)
joined-two {B = B} f (a ∷ b ∷ []) d e = ap (λ (x : List B). f a ++ x) (append-nil (f b))
joined-two f (a ∷ b ∷ c ∷ l) d e = absurd (omega arith)

-- Bytes stored right behind others: one field more, the parts of a line.
use mathlib.Core.Path.{◌≡◌, sym, ap, ◌∙◌}
use mathlib.Core.List.{List, [], ◌∷◌, ◌++◌}
use Prim.Native.Nat.{ℕ, ◌+◌, ◌*◌, ◌≤◌, ◌<◌}
use native.Mathlib.Numerals.{add-one}
use native.Mathlib.Omega.{arith}
use mathlib.Core.Bool.{true}
use lib.IntN.{ℤ, pos, nat_abs}
use lib.ListN.{length, get_or, take, set}
use lib.Seq.{sets, take-suc, length-take-le}
use Rattle.lists.specs.Lists.{joined}
use Rattle.lists.proofs.Joined.{joined_snoc}
use Rattle.lists.proofs.Stores.{sets_append}
use Rattle.words.specs.Words.{word_size}
use Rattle.unit.specs.Fit.{is_remainder}
use Rattle.unit.proofs.Ranges.{remainder-size}
use Rattle.fields.specs.Fields.{field_size, field}
use Rattle.forms.proofs.Line.{fields_length}

-- one field more
pub field_put : (out : List ℕ) (at : ℕ) (ns : List ℤ) (i : ℕ) → i < length ns → sets (sets out at (joined field (take i ns))) (at + field_size * i) (field (get_or ns i (pos 0))) ≡ sets out at (joined field (take (i + 1) ns))
field_put out at ns i h =
    sets_append (joined field (take i ns)) (field (get_or ns i (pos 0))) out at (at + field_size * i)
    (omega (arith, fields_length (take i ns), length-take-le i ns (omega arith)))
    ∙ ap (sets out at) next
  where
    next : joined field (take i ns) ++ field (get_or ns i (pos 0)) ≡ joined field (take (i + 1) ns)
    next = rw (add-one, take-suc ns i (pos 0)) (sym (joined_snoc field (take i ns) (get_or ns i (pos 0))))

-- a byte, a run, and a byte
pub parts_put : (out : List ℕ) (at : ℕ) (a : ℕ) (p : List ℕ) (b : ℕ) (j : ℕ) → j ≡ at + 1 + length p → set (sets (set out at a) (at + 1) p) j b ≡ sets out at (a ∷ (p ++ (b ∷ [])))
parts_put out at a p b j e =
    sets_append p (b ∷ []) (set out at a) (at + 1) j e ∙ ap (λ (k : ℕ). sets (set out at a) k (p ++ (b ∷ []))) (add-one at)

-- a remainder is at most as large as a word
pub remainder_small : (v : ℤ) → is_remainder v ≡ true → nat_abs v ≤ word_size
remainder_small v e = omega (arith, remainder-size v e)

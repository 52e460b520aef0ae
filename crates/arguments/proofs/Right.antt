-- Bytes at the right end of others, as the columns of a field.
use mathlib.Core.Path.{◌≡◌, sym, ap, ◌∙◌}
use mathlib.Core.List.{List, ◌++◌}
use Prim.Native.Nat.{ℕ, ◌+◌, ◌-◌, ◌≤◌}
use native.Mathlib.Omega.{arith}
use lib.ListN.{length, take, replicate, length-append, length-replicate, replicate-append-replicate}
use lib.Seq.{take-length, take_at}
use Rattle.fields.specs.Fields.{field_size, blank, field_at}
use Rattle.arguments.specs.Meaning.{right_justified}

-- a text behind blanks fills the columns of a field
module _ (text : List ℕ) (fits : length text ≤ field_size) where
  abbrev spare : ℕ
  spare = field_size - length text

  blanks : take spare (replicate field_size blank) ≡ replicate spare blank
  blanks =
      ap (λ (n : ℕ). take spare (replicate n blank)) all
      ∙ ap (take spare) (sym (replicate-append-replicate spare (length text) blank))
      ∙ take_at (replicate spare blank) (replicate (length text) blank) spare (length-replicate spare blank)
    where
      all : field_size ≡ spare + length text
      all = omega (arith, fits)

  nine : length (right_justified text) ≡ field_size
  nine = length-append (replicate spare blank) text ∙ omega (arith, length-replicate spare blank, fits)

  pub in_columns : field_at (take spare (replicate field_size blank) ++ text) 0 ≡ right_justified text
  in_columns =
      ap (λ (l : List ℕ). take field_size (l ++ text)) blanks
      ∙ ap (λ (n : ℕ). take n (right_justified text)) (sym nine)
      ∙ take-length (right_justified text)

-- A line: "each a letter, fields of nine columns ..., and a line feed (byte 10)". Definitions only, by docs/SPECIFICATION.md, The strip sheet.
-- "from the first byte on, 12 wrong letter or line end, 13 field badly written, 14 number outside its range; a C line tests 8 to 10 after its three
-- fields, in place of 14 and ahead of its line end."
use Rattle.std.specs.Prelude.{Bool, ◌&&◌, List, [], ◌∷◌, ◌++◌, ℕ, zero, suc, ◌+◌, ◌*◌, eqb, leb, ℤ, length, get_or, take, drop}
use Rattle.lists.specs.Lists.{joined}
use Rattle.refusals.specs.Numbers.{unless, first_of, Verdict, Accepted}
use Rattle.refusals.specs.declared.Refusal.TheVariants.{LineMark, FieldForm, Unfit}
use Rattle.fields.specs.Fields.{field_size, field, number_in, is_field}
use Rattle.forms.specs.Form.{Form}

-- "a line feed (byte 10)"
abbrev pub line_feed : ℕ
line_feed = 10

-- how many bytes a line of so many fields has: a letter, the fields, a line feed
abbrev pub line_size : ℕ → ℕ
line_size fields = field_size * fields + 2

-- the line of these numbers
abbrev pub line_text : ℕ → List ℤ → List ℕ
line_text letter numbers = letter ∷ (joined field numbers ++ (line_feed ∷ []))

-- ---- some fields, in the bytes from the first of them on

-- "13 field badly written, 14 number outside its range"
abbrev pub field_verdict : (ℤ → Bool) → List ℕ → Verdict
field_verdict range columns = unless (is_field columns) FieldForm (unless (range (number_in columns)) Unfit Accepted)

-- the first refusal of the fields of these ranges
abbrev pub fields_verdict : List (ℤ → Bool) → List ℕ → Verdict
fields_verdict [] bytes = Accepted
fields_verdict (range ∷ ranges) bytes = first_of (field_verdict range (take field_size bytes)) (fields_verdict ranges (drop field_size bytes))

-- the numbers of so many fields
abbrev pub field_numbers : ℕ → List ℕ → List ℤ
field_numbers zero bytes = []
field_numbers (suc n) bytes = number_in (take field_size bytes) ∷ field_numbers n (drop field_size bytes)

-- ---- a line, in the bytes from its letter on

-- "12 wrong letter", and 12 for a line that is longer than the bytes left
abbrev pub letter_verdict : ℕ → ℕ → List ℕ → Verdict
letter_verdict letter fields bytes = unless (leb (line_size fields) (length bytes) && eqb (get_or bytes 0 0) letter) LineMark Accepted

-- "12 wrong ... line end", behind so many fields
abbrev pub end_verdict : ℕ → List ℕ → Verdict
end_verdict fields bytes = unless (eqb (get_or bytes (field_size * fields + 1) 0) line_feed) LineMark Accepted

-- the letter, the fields, what the numbers are refused for together, the line end
unfoldable pub line_verdict : ℕ → List (ℤ → Bool) → (List ℤ → Verdict) → List ℕ → Verdict
line_verdict letter ranges joint bytes =
    first_of (letter_verdict letter (length ranges) bytes)
    (first_of (fields_verdict ranges (drop 1 bytes))
    (first_of (joint (field_numbers (length ranges) (drop 1 bytes))) (end_verdict (length ranges) bytes)))

-- a line with a field of each range
abbrev pub line_form : ℕ → List (ℤ → Bool) → (List ℤ → Verdict) → Form (List ℤ)
line_form letter ranges joint =
    record {
      text = line_text letter;
      verdict = line_verdict letter ranges joint;
      size = λ bytes. line_size (length ranges);
      value = λ bytes. field_numbers (length ranges) (drop 1 bytes);
    }

-- the numbers of a line are not tested together
abbrev pub alone : List ℤ → Verdict
alone numbers = Accepted

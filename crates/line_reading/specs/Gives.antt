-- What reading gives: what is carried, or the first refusal. Definitions only.
use Rattle.std.specs.Prelude.{Bool, List, ℕ, ℤ, length, Result, Ok}
use Rattle.refusals.specs.Numbers.{first_of}
use Rattle.refusals.specs.declared.Refusal.{Refusal}
use Rattle.rounding.specs.Rounding.{within}
use Rattle.unit.specs.Fit.{is_input}
use Rattle.fields.specs.Fields.{number_in}
use Rattle.forms.specs.Form.{Form}
use Rattle.forms.specs.Line.{field_verdict, fields_verdict, field_numbers}
use Rattle.sheet.specs.Lines.{row_at, any_number, fifth_range}
use Rattle.line_reading.specs.declared.Range.{Range}
use Rattle.line_reading.specs.declared.Range.TheVariants.{Any, Input, Between}

-- the numbers of a range
abbrev pub is_admitted : Range → ℤ → Bool
is_admitted Any = any_number
is_admitted Input = is_input
is_admitted (Between low high) = within low high

-- of a form, in the bytes from its first on
abbrev pub form_read : {A : Type 0} → Form A → List ℕ → Result A Refusal
form_read form bytes = first_of (form.verdict bytes) (Ok (form.value bytes))

-- of a field of this range, in its columns
abbrev pub number_read : (ℤ → Bool) → List ℕ → Result ℤ Refusal
number_read range columns = first_of (field_verdict range columns) (Ok (number_in columns))

-- of fields of these ranges, in the bytes from the first of them on
abbrev pub numbers_read : List (ℤ → Bool) → List ℕ → Result (List ℤ) Refusal
numbers_read ranges bytes = first_of (fields_verdict ranges bytes) (Ok (field_numbers (length ranges) bytes))

-- of the fifth field of an S line: its number, or 0 where the line has no such field
abbrev pub remainder_read : Bool → List ℕ → Result ℤ Refusal
remainder_read fifth bytes =
    first_of (fields_verdict (fifth_range fifth) bytes) (Ok (row_at (field_numbers (length (fifth_range fifth)) bytes) 0))

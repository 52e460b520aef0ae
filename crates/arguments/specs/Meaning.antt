-- What the arguments of a program stand for. Definitions only.
use Rattle.std.specs.Prelude.{Bool, true, false, cond, ◌&&◌, List, [], ◌∷◌, ◌++◌, ℕ, ◌-◌, eqb, leb, ltb, ℤ, pos, negsuc, length, replicate, Option, Some, None, bytes_eq}
use Rattle.fields.specs.Fields.{field_size, blank, field_read}
use Rattle.arguments.specs.declared.Request.{Request}
use Rattle.arguments.specs.declared.Request.TheVariants.{Plain, Help, Version, Other}
use Rattle.arguments.specs.declared.Word.{Word}
use Rattle.arguments.specs.declared.Word.TheVariants.{Number, Mute, Other as NoWord}

-- ---- what a program is asked for

-- "--help"
abbrev pub help_text : List ℕ
help_text = 45 ∷ 45 ∷ 104 ∷ 101 ∷ 108 ∷ 112 ∷ []

-- "--version"
abbrev pub version_text : List ℕ
version_text = 45 ∷ 45 ∷ 118 ∷ 101 ∷ 114 ∷ 115 ∷ 105 ∷ 111 ∷ 110 ∷ []

-- by so many arguments, the name of the program among them, and the first behind the name: with the name alone, what the program does; a word
-- counts where it is the only one
unfoldable pub request_of : ℕ → List ℕ → Request
request_of count first =
    cond (ltb count 2) Plain (cond (ltb 2 count) Other (cond (bytes_eq first help_text) Help (cond (bytes_eq first version_text) Version Other)))

-- "--wave"
abbrev pub wave_text : List ℕ
wave_text = 45 ∷ 45 ∷ 119 ∷ 97 ∷ 118 ∷ 101 ∷ []

-- wave files are asked for, where that word is the only one
abbrev pub asks_wave : ℕ → List ℕ → Bool
asks_wave count first = eqb count 2 && bytes_eq first wave_text

-- what the program does is asked for
abbrev pub is_plain : Request → Bool
is_plain Plain = true
is_plain Help = false
is_plain Version = false
is_plain Other = false

-- a text of the program's own is asked for
abbrev pub asks_text : Request → Bool
asks_text Plain = false
asks_text Help = true
asks_text Version = true
asks_text Other = false

-- ---- one argument

-- a field's number, where it is not below zero
abbrev pub unsigned_of : ℤ → Option ℕ
unsigned_of (pos n) = Some n
unsigned_of (negsuc n) = None

-- the same, where there is a number
abbrev pub unsigned_in : Option ℤ → Option ℕ
unsigned_in (Some z) = unsigned_of z
unsigned_in None = None

-- a text in the nine columns of a field, right-justified in blanks
abbrev pub right_justified : List ℕ → List ℕ
right_justified text = replicate (field_size - length text) blank ++ text

-- the number of an argument, written as in a field of the strip sheet; none where it is longer than a field
unfoldable pub argument_number : List ℕ → Option ℕ
argument_number text = cond (leb (length text) field_size) (unsigned_in (field_read (right_justified text))) None

-- the word "mute"
abbrev pub mute_text : List ℕ
mute_text = 109 ∷ 117 ∷ 116 ∷ 101 ∷ []

-- a number, or else something else
abbrev pub number_or_other : Option ℕ → Word
number_or_other (Some n) = Number n
number_or_other None = NoWord

unfoldable pub meaning_of : List ℕ → Word
meaning_of text = cond (bytes_eq text mute_text) Mute (number_or_other (argument_number text))
